-- Attributes are found in lists that end with a short one, also with one attribute more.
use Rattle.std.proofs.lemmas.Grind.{common_steps}
use Rattle.std.proofs.Common.{rules, ◌≡◌, ◌≢◌, ℕ, zero, suc, ◌+◌, ◌-◌, ◌<◌, ◌≤◌, Bool, true, false, cond, List, [], ◌∷◌, ◌++◌, length, refl, sym, ap, subst, ◌∙◌, inl, inr, arith, ◌==◌, nat_lt, get_or, lt-ltb, le-ltb, ltb-true, ltb-false, length-append, take-append-drop, length-drop, eq-eqb, ne_eqb}
use Rattle.std.proofs.lemmas.Bool.{cases_eq}
use Rattle.std.proofs.lemmas.List.{map-append, get_or_append_left, get_or_at}
use Rattle.dw_forms.specs.Abbrev.{attribute_of}
use Rattle.dw_forms.specs.AbbrevReading.{has_attribute, AttributeSpec}
use Rattle.dw_forms.specs.AttributeLists.{SHORT, specs_of, numbered_in, list_in, has_this, link_of, links_of, long_part, short_part, Knows, IsKnown, IsJoined, HasShortRest, IsLongNode, AreSearched, Node}
use Rattle.dw_forms.specs.Chains.{Numbered, codes_in, number_in, number_where, AreNumbered, AreMore, AreBranches, AreBelow, AreFound, Link}
use Rattle.dw_forms.proofs.CodeLaws.{none_where, own, codes_none, old_codes, new_codes, found_stay, found_more}
use Rattle.dw_forms.proofs.ChainLaws.{where_map, where_first, where_later, are_numbered, item_some}
use Rattle.dw_forms.proofs.NodeLaws.{attribute_in, old_list, new_list, links_long, has}

-- ---- the first number in a chain and others after it

found_first : (number some all : ℕ) (b : Bool) → ((some ≡ 0 → ⊥) → all ≡ some) → (cond b number some ≡ 0 → ⊥)
    → cond b number all ≡ cond b number some
found_first number some all true rest other = refl
found_first number some all false rest other = rest other

found_before : (test : AttributeSpec → Bool) (before others : List (Numbered AttributeSpec))
    → (number_where test before ≡ 0 → ⊥) → number_where test (before ++ others) ≡ number_where test before
unfolding number_where
found_before test [] others some = absurd (some refl)
found_before test (n ∷ before) others some = search (rules, found_first, (found_before test before others))

found_last : (number none all others : ℕ) (b : Bool) → 0 < number → (none ≡ 0 → all ≡ others)
    → cond b number none ≡ 0 → cond b number all ≡ others
found_last number none all others true some rest e = absurd (omega arith)
found_last number none all others false some rest e = rest e

found_after : (test : AttributeSpec → Bool) (specs : List (AttributeSpec × ℕ))
    (before others : List (Numbered AttributeSpec)) → AreNumbered specs (before ++ others)
    → number_where test before ≡ 0 → number_where test (before ++ others) ≡ number_where test others
unfolding number_where
found_after test specs [] others are none = refl
found_after test specs (n ∷ before) others are none =
    search (rules, found_last, item_some, (found_after test specs before others are.1))

-- ---- a search goes on after an attribute

module _ (nodes : List Node) (number : ℕ) (n : Node) (is : IsKnown nodes number n) (code : ℕ) where
  pub found_here : n.attribute ≡ code → number ≡ attribute_in nodes number code
  found_here same = search (rules, where_first, eq-eqb)

  pub found_later : (n.attribute ≡ code → ⊥) → attribute_in nodes n.next code ≡ attribute_in nodes number code
  found_later other = search (rules, where_later, ne_eqb)

  pub one_less : length (numbered_in nodes number) ≡ suc (length (numbered_in nodes n.next))
  one_less = ap length is.begins

found_nowhere : (test : AttributeSpec → Bool) (list : List (Numbered AttributeSpec)) → length list ≡ 0
    → 0 ≡ number_where test list
unfolding number_where
found_nowhere test [] none = refl
found_nowhere test (n ∷ list) none = absurd (omega arith)

pub none_left : (nodes : List Node) (number code : ℕ) → length (numbered_in nodes number) ≡ 0
    → 0 ≡ attribute_in nodes number code
none_left nodes number code none = search (rules, found_nowhere)

-- ---- what is found in the chain of a list, and what in the short list after it

module _ (nodes : List Node) (number chain short : ℕ) (is : IsJoined nodes number chain short) (code : ℕ) where
  abbrev long : List (Numbered AttributeSpec)
  long = long_part (numbered_in nodes number)

  in_parts : numbered_in nodes number ≡ long ++ numbered_in nodes short
  in_parts = search (rules, take-append-drop, long)

  chain_finds : number_in (codes_in (links_of nodes) chain) code ≡ number_where (has_this code) long
  chain_finds =
      (λ i. number_in (is.codes i) code)
      ∙ where_map (λ c. c == code) attribute_of long

  pub in_chain : (number_in (codes_in (links_of nodes) chain) code ≡ 0 → ⊥)
      → number_in (codes_in (links_of nodes) chain) code ≡ attribute_in nodes number code
  in_chain some = search (rules, chain_finds, found_before, long, in_parts)

  pub in_short : number_in (codes_in (links_of nodes) chain) code ≡ 0
      → attribute_in nodes short code ≡ attribute_in nodes number code
  in_short none =
      sym (ap (number_where (has_this code)) in_parts
      ∙ found_after (has_this code) (specs_of nodes) long (numbered_in nodes short)
      (subst (AreNumbered (specs_of nodes)) in_parts (are_numbered (specs_of nodes) number)) (sym chain_finds ∙ none))

  -- the short list is short
  pub rest_few : length (numbered_in nodes short) ≤ SHORT
  rest_few = search (rules, length-drop)

  -- a code that is found in the chain is in the list
  pub lacks_none : has_attribute code (list_in nodes number) ≡ false
      → number_in (codes_in (links_of nodes) chain) code ≢ 0 → ⊥
  lacks_none lacks some = search (rules, has, in_chain)

-- ---- a list that begins with the chain of this number, or is short

-- a node that is read tells so
pub rest_read : (branches : List ℕ) (nodes : List Node) (number : ℕ) (n : Node) → AreSearched branches nodes
    → 0 < number → number ≤ length nodes → n ≡ get_or nodes (number - 1) n → HasShortRest branches nodes number n
rest_read branches nodes zero n are some within read = absurd (omega arith)
rest_read branches nodes (suc k) n are some within read = search rules

short_rest : (nodes : List Node) (rest : ℕ) → rest ≤ length nodes → length (numbered_in nodes rest) ≤ SHORT
    → IsJoined nodes rest 0 rest
short_rest nodes rest within few = search (rules, codes_none)

pub rest_joined : (branches : List ℕ) (nodes : List Node) (rest short : ℕ) (next : Node) (b : Bool)
    → rest ≤ length nodes → Knows (numbered_in nodes rest) next → HasShortRest branches nodes rest next
    → (SHORT < next.count → short ≡ get_or branches (next.branches - 1) 0) → (next.count ≤ SHORT → short ≡ rest)
    → nat_lt SHORT next.count ≡ b → IsJoined nodes rest (cond b rest 0) short
rest_joined branches nodes rest short next true within knows has long_is short_is b_is = search (rules, ltb-true, has)
rest_joined branches nodes rest short next false within knows has long_is short_is b_is =
    search (rules, ltb-false, short_rest)

-- ---- branches are appended

pub more_searched : (old new : List ℕ) (nodes : List Node) → AreSearched old nodes → AreFound new (links_of nodes)
    → AreMore old new → AreSearched new nodes
more_searched old new nodes are found more = search rules

pub pushed_more : (branches : List ℕ) (short : ℕ) → AreMore branches (branches ++ short ∷ [])
pushed_more branches short = search (rules, long, length-append, get_or_append_left)

pub pushed_searched : (branches : List ℕ) (short : ℕ) (nodes : List Node) → AreSearched branches nodes
    → AreSearched (branches ++ short ∷ []) nodes
pushed_searched branches short nodes are = search (rules, more_searched, found_stay, pushed_more)

-- the number of a short list is pushed, and branches after it
module _ (old pushed new : List ℕ) (short : ℕ) (is : pushed ≡ old ++ short ∷ []) (more : AreMore pushed new) where
  pub branches_kept : (nodes : List Node) → AreSearched old nodes → AreFound new (links_of nodes)
      → AreSearched new nodes
  branches_kept nodes are found = grind (arith, common_steps, more_searched, pushed_searched)

  pub short_kept : (from : ℕ) → from ≡ length pushed → (0 < from) × (get_or new (from - 1) 0 ≡ short)
  short_kept from from_is = search (rules, length-append, get_or_at)

-- ---- one attribute more

long_more : (count : ℕ) (b : Bool) → nat_lt SHORT count ≡ b → nat_lt (suc SHORT) (count + 1) ≡ b
long_more count true is = search (rules, ltb-true, lt-ltb)
long_more count false is = search (rules, ltb-false, le-ltb)

-- a list that is not short has one attribute more before its last 32
one_more : (list : List (Numbered AttributeSpec)) → SHORT ≤ length list
    → suc (length list) - SHORT ≡ suc (length list - SHORT)
one_more list many = omega arith

long_part_more : (n : Numbered AttributeSpec) (list : List (Numbered AttributeSpec)) → SHORT ≤ length list
    → long_part (n ∷ list) ≡ n ∷ long_part list
long_part_more n list many = search (rules, one_more)

short_part_more : (n : Numbered AttributeSpec) (list : List (Numbered AttributeSpec)) → SHORT ≤ length list
    → short_part (n ∷ list) ≡ short_part list
short_part_more n list many = search (rules, one_more)

no_branches : (branches : List ℕ) (links : List Link) (code : ℕ) → AreBranches branches 0 0 code (codes_in links 0)
no_branches branches links code = search (rules, none_where)

module _ (nodes : List Node) (n : Node) where
  old_chain : (chain : ℕ) → chain ≤ length nodes
      → codes_in (links_of (nodes ++ n ∷ [])) chain ≡ codes_in (links_of nodes) chain
  old_chain chain within = search (rules, map-append, old_codes, links_long)

  joined_stay : (number short : ℕ) → number ≤ length nodes → IsJoined nodes number number short
      → IsJoined (nodes ++ n ∷ []) number number short
  joined_stay number short within is = search (rules, old_list, old_chain, length-append)

  new_codes_are : (chain : ℕ) → (link_of n).rest ≡ chain
      → codes_in (links_of (nodes ++ n ∷ [])) (suc (length nodes))
      ≡ record { number = suc (length nodes); item = n.attribute } ∷ codes_in (links_of nodes) chain
  new_codes_are chain rest_is = search (rules, map-append, links_long, new_codes, own)

  joined_more : (rest chain short : ℕ) → n.next ≡ rest → (link_of n).rest ≡ chain
      → SHORT ≤ length (numbered_in nodes rest) → IsJoined nodes rest chain short
      → IsJoined (nodes ++ n ∷ []) (suc (length nodes)) (suc (length nodes)) short
  joined_more rest chain short next_is rest_is many is =
      search (rules, new_list, new_codes_are, own, long_part_more, old_list, short_part_more, length-append)

  -- a node whose branches are right
  searched_more : (branches : List ℕ) (chain : ℕ) → AreSearched branches nodes → (link_of n).rest ≡ chain
      → AreBelow branches n.branches n.places (length (links_of nodes) + 1)
      → AreBranches branches n.branches n.places n.attribute (codes_in (links_of nodes) chain)
      → HasShortRest branches (nodes ++ n ∷ []) (suc (length nodes)) n → AreSearched branches (nodes ++ n ∷ [])
  searched_more branches chain are rest_is below is last = record {
    found =
        rw (map-append link_of nodes (n ∷ []))
        (found_more branches (links_of nodes) (link_of n) are.found (omega arith) refl below (rw rest_is is));
    rests = λ k x less read. elim (cases_eq k (length nodes)) [
      | inl same ↦ let x_is : x ≡ n = read ∙ get_or_at nodes n [] x k (sym same) in rw (x_is, same) last
      | inr other ↦
          let before : k < length nodes = omega (arith, length-append nodes (n ∷ [])) in
          λ long.
          let rest = are.rests k x before (read ∙ get_or_append_left nodes (n ∷ []) x k before) long in
          record { some = rest.some; within = rest.within; joined = joined_stay (suc k) _ before rest.joined }
    ];
  }

  -- one in a short list needs none
  pub short_more : (branches : List ℕ) (rest : ℕ) (next : Node) (attribute : ℕ) → AreSearched branches nodes
      → next.count < SHORT → IsLongNode rest next attribute (0, 0) n → AreSearched branches (nodes ++ n ∷ [])
  short_more branches rest next attribute are few is =
      let count = is.count_is in
      let none : nat_lt (suc SHORT) n.count ≡ false = le-ltb (suc SHORT) n.count (omega arith) in
      searched_more branches 0 are (rw none refl) (rw is.places_are (λ place less. absurd (omega arith)))
      (rw (is.branches_are, is.places_are) (no_branches branches (links_of nodes) n.attribute))
      (λ long. absurd (omega (arith, long)))

  -- one in a longer list has them after the number of its short list
  pub joined_searched : (branches : List ℕ) (rest chain short from count : ℕ) (next : Node) (attribute : ℕ)
      → AreSearched branches nodes → IsLongNode rest next attribute (from, count) n
      → cond (nat_lt SHORT next.count) rest 0 ≡ chain → 0 < from → get_or branches (from - 1) 0 ≡ short
      → SHORT ≤ length (numbered_in nodes rest) → IsJoined nodes rest chain short
      → AreBelow branches from count (length (links_of nodes) + 1)
      → AreBranches branches from count attribute (codes_in (links_of nodes) chain)
      → AreSearched branches (nodes ++ n ∷ [])
  joined_searched branches rest chain short from count next attribute are is chain_from some short_is many joined below
      right =
      let rest_is : (link_of n).rest ≡ chain = rw (is.count_is, is.next_is, long_more next.count _ refl) chain_from in
      searched_more branches chain are rest_is (rw (is.branches_are, is.places_are) below)
      (rw (is.branches_are, is.places_are, is.attribute_is) right)
      (λ long. record {
        some = rw is.branches_are some;
        within = rw is.branches_are (omega arith);
        joined =
            subst (IsJoined (nodes ++ n ∷ []) (suc (length nodes)) (suc (length nodes)))
            (sym ((λ i. get_or branches (is.branches_are i - 1) 0) ∙ short_is))
            (joined_more rest chain short is.next_is rest_is many joined);
      })
