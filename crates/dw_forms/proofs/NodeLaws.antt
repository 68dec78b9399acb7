-- What is known of a list of attributes, also with one attribute more, and how codes are found in it.
use Rattle.std.proofs.Common.{rules, ◌≡◌, ℕ, ◌+◌, ◌-◌, ◌*◌, ◌≤◌, ◌⊎◌, true, false, List, ◌∷◌, refl, inl, inr, arith, ◌<◌, Bool, cond, length, sym, ◌∙◌, ◌&&◌, get_or, zero, suc, [], ◌++◌, ◌==◌, not, length-append, eq-eqb, ne_eqb}
use Rattle.dw_forms.specs.Chains.{Numbered, items_of, number_where}
use Rattle.dw_forms.specs.KnownValues.{known_size, AttributeSpec, known_sum}
use Rattle.dw_forms.specs.LeadingWalks.{stops_at, step_in, skip_in, lead_of, lead_in, IsFirstStep, Lead, Step}
use Rattle.std.proofs.lemmas.List.{length-map, map-append, get_or_append_left, get_or_at, get_or_default}
use Rattle.std.proofs.lemmas.List.Sums.{sum_by-cons}
use Rattle.dw_forms.specs.Abbrev.{AreAttributeSpecs, IsCode16}
use Rattle.dw_forms.specs.AttributeLists.{Knows, IsKnown, AreKnown, Node, spec_of, specs_of, numbered_in, list_in, has_this, link_of, links_of}
use Rattle.dw_forms.proofs.OwnBits.{few_specs}
use Rattle.std.proofs.lemmas.Grind.{common_steps}
use Rattle.std.proofs.lemmas.Bool.{cases_eq}
use Rattle.dw_forms.specs.AbbrevReading.{has_attribute}
use Rattle.dw_forms.specs.Keys.{lacks_from}
use Rattle.dw_forms.proofs.SpelledLists.{apart_cons}
use Rattle.dw_forms.proofs.ChainLaws.{chain_none, are_numbered, none_has, some_has, old_chain, new_chain}

-- ---- the first step in a list with one attribute more

-- what the values take that a step passes
pub skip_is : (size : ℕ) (list : List (Numbered AttributeSpec)) (s : Step) → (size ≡ 4) ⊎ (size ≡ 8)
    → IsFirstStep list s
    → s.skip_with_8 - (8 - size) * s.addresses ≡ skip_in size list
skip_is size list s (inl e) is = rw e (omega arith)
skip_is size list s (inr e) is = rw e (omega arith)

-- the same where addresses have 8 bytes, and 4 for each fewer where they have 4
pub sum_with_8 : (size with_8 addresses : ℕ) → size ≡ 8 → with_8 ≡ with_8 - (8 - size) * addresses
sum_with_8 size with_8 addresses e = rw e (omega arith)

pub sum_with_4 : (size with_8 addresses : ℕ) → (size ≡ 4) ⊎ (size ≡ 8) → (size ≡ 8 → ⊥)
    → with_8 - 4 * addresses ≡ with_8 - (8 - size) * addresses
sum_with_4 size with_8 addresses (inl e) other = rw e refl
sum_with_4 size with_8 addresses (inr e) other = absurd (other e)

-- a sum with values of addresses that have 8 bytes, by one with values that have 4
pub sum_of_4 : (known sum addresses own_8 own_4 more : ℕ) → known ≡ sum + 4 * addresses → own_8 ≡ own_4 + 4 * more
    → known + own_8 ≡ (sum + own_4) + 4 * (addresses + more)
sum_of_4 known sum addresses own_8 own_4 more e o = omega arith

module _ (number : ℕ) (spec : AttributeSpec) (list : List (Numbered AttributeSpec)) (after : Step)
    (is : IsFirstStep list after) where
  -- the step is made to it
  pub step_here : (l : Lead) → l ≡ lead_of spec → stops_at after.to spec ≡ true
      → IsFirstStep (record { number = number; item = spec } ∷ list)
      (record { lead = l; addresses = 0; to = number; skip_with_8 = 0 })
  unfolding step_in skip_in lead_in
  step_here l e stops = search (rules)

  -- or its value is passed
  pub step_past : (size more : ℕ) → size ≡ known_size 8 spec.form
      → known_size 8 spec.form ≡ known_size 4 spec.form + 4 * more → size ≤ 0xff → more ≤ 1
      → stops_at after.to spec ≡ false
      → IsFirstStep (record { number = number; item = spec } ∷ list)
      (record {
        lead = after.lead;
        addresses = after.addresses + more;
        to = after.to;
        skip_with_8 = after.skip_with_8 + size;
      })
  unfolding step_in skip_in lead_in
  step_past size more size_is address small few passes = search (rules, sum_of_4)

-- ---- what is known of a list with one attribute more

-- the next list of a kind: this one, or the next after it
pub next_more : (test : AttributeSpec → Bool) (number : ℕ) (spec : AttributeSpec) (list : List (Numbered AttributeSpec))
    (b : Bool) (next result : ℕ)
    → b ≡ test spec → next ≡ number_where test list → result ≡ cond b number next
    → result ≡ number_where test (record { number = number; item = spec } ∷ list)
unfolding number_where
next_more test number spec list b next result here there is = rw (is, here, there) refl

pub sum_more : (size : ℕ) (spec : AttributeSpec) (specs : List AttributeSpec) (known own : ℕ)
    → known ≡ known_sum size specs → own ≡ known_size size spec.form → known + own ≡ known_sum size (spec ∷ specs)
sum_more size spec specs known own e o = search (rules, sum_by-cons)

-- the same where addresses have 4 bytes
pub sum_more_4 : (spec : AttributeSpec) (specs : List AttributeSpec) (known addresses own more : ℕ)
    → known ≡ known_sum 4 specs + 4 * addresses → own ≡ known_size 8 spec.form
    → known_size 8 spec.form ≡ known_size 4 spec.form + 4 * more
    → known + own ≡ known_sum 4 (spec ∷ specs) + 4 * (addresses + more)
sum_more_4 spec specs known addresses own more e o address = search (rules, sum_by-cons)

-- whether both hold, if the second one holds
pub and_true : (own all result next : Bool) → next ≡ all → next ≡ true → result ≡ own → result ≡ (own && all)
and_true true all result next e held is = is ∙ sym held ∙ e
and_true false all result next e held is = is

-- and if it does not
pub and_false : (own all result next : Bool) → next ≡ all → next ≡ false → result ≡ next → result ≡ (own && all)
and_false true all result next e failed is = is ∙ e
and_false false all result next e failed is = is ∙ failed

-- ---- there are few attributes, and the sums are small

pub few_in : (list : List (Numbered AttributeSpec)) → AreAttributeSpecs (items_of list) → length list ≤ 0xffff
few_in list are = search (rules, few_specs, length-map)

pub known_small : (list : List (Numbered AttributeSpec)) (known : ℕ) → AreAttributeSpecs (items_of list)
    → known ≤ 0xff * length list → known ≤ 0xffffff
known_small list known are le = search (rules, few_in)

-- one attribute more
pub count_more : (list : List (Numbered AttributeSpec)) (first : Numbered AttributeSpec) (next count : ℕ)
    → next ≡ length list → count ≡ next + 1 → count ≡ length (first ∷ list)
count_more list first next count before more = omega arith

-- addresses are among the values
pub addresses_less : (list : List (Numbered AttributeSpec)) (n : Node) → Knows list n
    → 4 * n.addresses ≤ n.known_with_8
addresses_less list n is = omega arith

-- ---- the node that is read at the place before a number

pub node_read : (nodes : List Node) (number : ℕ) (n : Node) → AreKnown nodes → 0 < number → number ≤ length nodes
    → n ≡ get_or nodes (number - 1) n → IsKnown nodes number n
node_read nodes number n are some within read = search (rules)

-- ---- codes are found in lists of attributes

-- the first attribute with the code
abbrev pub attribute_in : List Node → ℕ → ℕ → ℕ
attribute_in nodes number code = number_where (has_this code) (numbered_in nodes number)

lacks : (nodes : List Node) (number code : ℕ) → attribute_in nodes number code ≡ 0
    → has_attribute code (list_in nodes number) ≡ false
lacks nodes number code none = search (rules, none_has, are_numbered)

pub has : (nodes : List Node) (number code : ℕ) → (attribute_in nodes number code ≡ 0 → ⊥)
    → has_attribute code (list_in nodes number) ≡ true
has nodes number code some = search (rules, some_has)

-- an attribute is in the list exactly if there is a first one with its code
pub has_is : (nodes : List Node) (number code found : ℕ) → found ≡ attribute_in nodes number code
    → not (found == 0) ≡ has_attribute code (list_in nodes number)
has_is nodes number code found is = search (rules, cases_eq, eq-eqb, lacks, ne_eqb, has)

-- ---- one attribute more

pub specs_more : (nodes : List Node) (n : Node)
    → specs_of (nodes ++ n ∷ []) ≡ specs_of nodes ++ (spec_of n, n.next) ∷ []
specs_more nodes n = search (rules, map-append)

-- the old lists stay
pub old_list : (nodes : List Node) (n : Node) (number : ℕ) → number ≤ length nodes
    → numbered_in (nodes ++ n ∷ []) number ≡ numbered_in nodes number
old_list nodes n number within = search (rules, specs_more, old_chain, length-map)

-- the new one is the attribute and the list after it
pub new_list : (nodes : List Node) (n : Node)
    → numbered_in (nodes ++ n ∷ []) (suc (length nodes))
    ≡ record { number = suc (length nodes); item = spec_of n } ∷ numbered_in nodes n.next
new_list nodes n = search (rules, length-map, specs_more, new_chain)

pub links_long : (nodes : List Node) → length (links_of nodes) ≡ length nodes
links_long nodes = length-map nodes link_of

-- ---- what is known of the new list

pub attributes_more : (spec : AttributeSpec) (specs : List AttributeSpec) → AreAttributeSpecs specs
    → IsCode16 spec.attribute → has_attribute spec.attribute specs ≡ false → AreAttributeSpecs (spec ∷ specs)
attributes_more spec specs are code none = grind (arith, common_steps, apart_cons, lacks_from)

pub attributes_in : (nodes : List Node) (number : ℕ) → AreKnown nodes → number ≤ length nodes
    → AreAttributeSpecs (list_in nodes number)
attributes_in nodes zero known within = search (rules, chain_none)
attributes_in [] (suc k) known within = absurd (omega arith)
attributes_in (d ∷ nodes) (suc k) known within =
    (known k (get_or (d ∷ nodes) k d) (omega arith)
    (get_or_default (d ∷ nodes) k d (get_or (d ∷ nodes) k d) (omega arith))).attributes

-- there is room to count it
pub few_more : (nodes : List Node) (spec : AttributeSpec) (rest : ℕ) (next : Node) → AreKnown nodes
    → rest ≤ length nodes → IsCode16 spec.attribute → has_attribute spec.attribute (list_in nodes rest) ≡ false
    → Knows (numbered_in nodes rest) next → next.count < 0xffff
few_more nodes spec rest next known within code none knows =
    let few = few_specs (spec ∷ list_in nodes rest)
    (attributes_more spec (list_in nodes rest) (attributes_in nodes rest known within) code none) in
    omega (arith, length-map (numbered_in nodes rest) (λ (n : Numbered AttributeSpec). n.item))

module _ (nodes : List Node) (n : Node) where
  old_known : (number : ℕ) (x : Node) → number ≤ length nodes → IsKnown nodes number x
      → IsKnown (nodes ++ n ∷ []) number x
  old_known number x within is = search (rules, old_list)

  pub known_more : AreKnown nodes → n.next ≤ length nodes → IsCode16 n.attribute
      → has_attribute n.attribute (list_in nodes n.next) ≡ false
      → Knows (record { number = suc (length nodes); item = spec_of n } ∷ numbered_in nodes n.next) n
      → IsFirstStep (numbered_in nodes n.next) n.after → AreKnown (nodes ++ n ∷ [])
  known_more known within code none knows after k x less read = elim (cases_eq k (length nodes)) [
    | inl same ↦
        let is : x ≡ n = read ∙ get_or_at nodes n [] x k (sym same) in
        rw (is, same) (record {
          next = omega arith;
          begins =
              new_list nodes n
              ∙ (λ i. record { number = suc (length nodes); item = spec_of n }
              ∷ sym (old_list nodes n n.next within) i);
          attributes =
              rw (new_list nodes n) (attributes_more (spec_of n) (list_in nodes n.next)
              (attributes_in nodes n.next known within) code none);
          knows = rw (new_list nodes n) knows;
          after = rw (old_list nodes n n.next within) after;
        })
    | inr other ↦
        let before : k < length nodes = omega (arith, length-append nodes (n ∷ [])) in
        old_known (suc k) x before (known k x before (read ∙ get_or_append_left nodes (n ∷ []) x k before))
  ]

  pub known_push : (spec : AttributeSpec) (rest number : ℕ) → spec_of n ≡ spec → n.next ≡ rest
      → number ≡ suc (length nodes) → AreKnown nodes → rest ≤ length nodes → IsCode16 spec.attribute
      → has_attribute spec.attribute (list_in nodes rest) ≡ false
      → Knows (record { number = number; item = spec } ∷ numbered_in nodes rest) n
      → IsFirstStep (numbered_in nodes rest) n.after → AreKnown (nodes ++ n ∷ [])
  known_push spec rest number spec_is next_is number_is known within code none knows after = search (rules, known_more)
