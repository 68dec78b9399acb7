-- Values are passed run by run: from one value of no one size to the next, or up to the end.
use Rattle.std.proofs.lemmas.Grind.{common_steps}
use Rattle.std.proofs.Common.{◌≡◌, ℕ, ◌+◌, ◌⊎◌, false, List, [], ◌∷◌, ◌++◌, Option, Some, None, Result, Ok, Err, inl, inr, refl, sym, ◌∙◌, rules, arith, is_none, ltb-true, ltb-false, drop-drop, length-drop, ◌-◌, ◌*◌, ◌<◌, ◌≤◌, length, ap, subst, get_or}
use Rattle.std.specs.Option.{unwrap_or}
use Rattle.std.specs.List.{list_any}
use Rattle.std.proofs.lemmas.Bool.{or_parts}
use Rattle.std.proofs.lemmas.List.{map-append, append_cancel_right}
use Rattle.std.proofs.lemmas.List.Sums.{sum_by-cons}
use Rattle.dw_forms.specs.declared.value.ValueFault.{ValueFault}
use Rattle.dw_forms.specs.Chains.{Numbered, items_of, number_where}
use Rattle.dw_forms.specs.AttributeLists.{Knows, EndsWith, known_with, varies, list_in, Node, spec_of, numbered_in, IsKnown}
use Rattle.dw_forms.specs.Steps.{◌>>=◌}
use Rattle.dw_forms.specs.Sizes.{fixed_size_of, rest_at}
use Rattle.dw_forms.specs.KnownValues.{known_size, does_vary, known_sum, rest_beyond, values_end, Form, AttributeSpec}
use Rattle.dw_forms.proofs.SizeLaws.{cut_short, cut_long, rest_cut}
use Rattle.dw_forms.specs.Suffixes.{nodes_of, specs_in, Ends, Attributes}
use Rattle.dw_forms.proofs.NodeLaws.{node_read, addresses_less}
use Rattle.dw_forms.proofs.PartLaws.{Falls, StartsAt, falls, starts, head_above, none_before, split, part_at}
use Rattle.dw_forms.specs.declared.form.Form.TheVariants as form

-- ---- a form that does not vary has one size

some_is : (o : Option ℕ) → is_none o ≡ false → o ≡ Some (unwrap_or o 0)
some_is None e = absurd cc
some_is (Some n) e = refl

vary_same : (f : Form) (size : ℕ) → is_none (fixed_size_of size f) ≡ does_vary f
vary_same form.Addr size = refl
vary_same f size = refl

pub has_size : (f : Form) (size : ℕ) → does_vary f ≡ false → fixed_size_of size f ≡ Some (known_size size f)
has_size f size e = search (rules, some_is, vary_same)

-- ---- bytes that are cut off one after another

cut_cut : (m n : ℕ) (bytes : List ℕ) → (rest_beyond m bytes >>= λ rest. rest_beyond n rest) ≡ rest_beyond (m + n) bytes
cut_cut m n bytes = search (rules, ltb-true, cut_short, length-drop, ltb-false, cut_long, drop-drop)

-- ---- a run of values that have one size each

bind_on : (r : Result (List ℕ) ValueFault) (f g : List ℕ → Result (List ℕ) ValueFault) → ((b : List ℕ) → f b ≡ g b)
    → (r >>= λ b. f b) ≡ (r >>= λ b. g b)
bind_on (Ok b) f g h = h b
bind_on (Err x) f g h = refl

-- each of these has one size
abbrev pub HaveSizes : List AttributeSpec → Type 0
HaveSizes [] = Unit {0}
HaveSizes (spec ∷ specs) = (does_vary spec.form ≡ false) × HaveSizes specs

pub run_ends : (version size : ℕ) (specs : List AttributeSpec) (bytes : List ℕ) → HaveSizes specs
    → values_end version size specs bytes ≡ rest_beyond (known_sum size specs) bytes
unfolding values_end
run_ends version size [] bytes e = search (rules, cut_long)
run_ends version size (spec ∷ specs) bytes e =
    bind_on _ (λ rest. values_end version size specs rest)
    (λ rest. rest_beyond (known_sum size specs) rest) (λ rest. run_ends version size specs rest e.1)
    ∙ (λ i. rest_cut version spec.form size _ bytes (has_size spec.form size e.0) i
    >>= λ rest. rest_beyond (known_sum size specs) rest)
    ∙ cut_cut _ _ bytes
    ∙ (λ i. rest_beyond (sym (sum_by-cons (λ (s : AttributeSpec). known_size size s.form) spec specs) i) bytes)

-- ---- some values, and others after them

bind_bind : (r : Result (List ℕ) ValueFault) (f g : List ℕ → Result (List ℕ) ValueFault)
    → ((r >>= λ b. f b) >>= λ b. g b) ≡ (r >>= λ b. f b >>= λ c. g c)
bind_bind (Ok b) f g = refl
bind_bind (Err x) f g = refl

pub ends_append : (version size : ℕ) (xs ys : List AttributeSpec) (bytes : List ℕ)
    → values_end version size (xs ++ ys) bytes
    ≡ (values_end version size xs bytes >>= λ rest. values_end version size ys rest)
unfolding values_end
ends_append version size [] ys bytes = refl
ends_append version size (x ∷ xs) ys bytes =
    bind_on _ (λ rest. values_end version size (xs ++ ys) rest)
    (λ rest. values_end version size xs rest >>= λ more. values_end version size ys more)
    (λ rest. ends_append version size xs ys rest)
    ∙ sym (bind_bind _ (λ rest. values_end version size xs rest)
    (λ rest. values_end version size ys rest))

-- ---- values up to those of a list

none_vary : (list : List (Numbered AttributeSpec)) → list_any varies (items_of list) ≡ false → HaveSizes (items_of list)
none_vary [] e = tt
none_vary (n ∷ list) e =
    let p = or_parts _ _ e in
    (p.0, none_vary list p.1)

sum_append : (size : ℕ) (xs ys : List AttributeSpec) → known_sum size (xs ++ ys) ≡ known_sum size xs + known_sum size ys
sum_append size [] ys = omega arith
sum_append size (x ∷ xs) ys = grind (arith, common_steps, sum_by-cons)

pub items_append : (xs ys : List (Numbered AttributeSpec)) → items_of (xs ++ ys) ≡ items_of xs ++ items_of ys
items_append xs ys = search (rules, map-append)

-- the sum of the known sizes before a list
pub sum_goes : (size : ℕ) (nodes : List Node) (from to : ℕ) (before : List (Numbered AttributeSpec))
    → EndsWith nodes from to before
    → known_sum size (list_in nodes from) ≡ known_sum size (items_of before) + known_sum size (list_in nodes to)
sum_goes size nodes from to before goes = search (rules, items_append, sum_append)

pub known_is : (size : ℕ) (list : List (Numbered AttributeSpec)) (n : Node) → (size ≡ 4) ⊎ (size ≡ 8) → Knows list n
    → known_with size n ≡ known_sum size (items_of list)
known_is size list n (inl e) k = rw e (omega arith)
known_is size list n (inr e) k = rw e (omega arith)

-- values that do not vary are cut off together
pub run : (version size : ℕ) (before : List (Numbered AttributeSpec)) (bytes : List ℕ)
    → list_any varies (items_of before) ≡ false
    → values_end version size (items_of before) bytes ≡ rest_beyond (known_sum size (items_of before)) bytes
run version size before bytes none = search (rules, run_ends, none_vary)

-- values that do not vary, one, and others
pub one : (version size : ℕ) (front others : List (Numbered AttributeSpec)) (z : Numbered AttributeSpec)
    (bytes : List ℕ) → list_any varies (items_of front) ≡ false
    → values_end version size (items_of (front ++ z ∷ others)) bytes
    ≡ (rest_beyond (known_sum size (items_of front)) bytes >>= λ mid. rest_at version z.item.form size mid >>= λ rest.
    values_end version size (items_of others) rest)
unfolding values_end
one version size front others z bytes none = search (rules, items_append, ends_append, run)

-- ---- one turn of passing values

-- where some attributes come before a list, its number is lower
above_by : (at to : ℕ) (before here there : List (Numbered AttributeSpec)) → here ≡ before ++ there → Falls at here
    → StartsAt at here → StartsAt to there → (at ≡ to → ⊥) → to < at
above_by at to [] here there e falls here_starts there_starts other = search (rules)
above_by at to (m ∷ before) here there e falls here_starts there_starts other =
    let first : m.number ≡ at = subst (StartsAt at) e here_starts in
    let less = head_above at to m before there (subst (Falls at) e falls) there_starts in
    omega (arith, less)

-- some values have one size each, the one at the next number has none, and others come after it
pub record Turn (nodes : List Node) (size at to : ℕ) (before : List (Numbered AttributeSpec)) (here varying : Node) :
    Type 0 where
  pub front : List (Numbered AttributeSpec)
  pub others : List (Numbered AttributeSpec)
  pub none : list_any varies (items_of front) ≡ false
  pub parts : before ≡ front ++ record { number = here.next_varying; item = spec_of varying } ∷ others
  pub goes_on : EndsWith nodes varying.next to others
  pub sum : known_with size here ≡ known_sum size (items_of front) + known_with size varying
  pub addresses : 4 * varying.addresses ≤ varying.known_with_8
  pub within : varying.next ≤ length nodes
  pub less : varying.next < at

-- ---- what is left of the values, turn by turn

-- the values from one number on are left, whatever the attributes are called that come before the last list
pub record Passes (all to : Attributes) (version size : ℕ) (bytes : List ℕ) (at : ℕ) (rest : List ℕ) : Type 0 where
  pub nodes : nodes_of to ≡ nodes_of all
  pub sized : (size ≡ 4) ⊎ (size ≡ 8)
  pub left : List (Numbered AttributeSpec)
  pub goes : EndsWith (nodes_of all) at to.first left
  pub within : at ≤ length (nodes_of all)
  pub same : (before : List (Numbered AttributeSpec)) → Ends all to before
      → values_end version size (items_of left) rest ≡ values_end version size (items_of before) bytes

-- there is one such list of attributes
pub passes_first : {all to : Attributes} {version size : ℕ} {bytes : List ℕ} (before : List (Numbered AttributeSpec))
    → Ends all to before → (size ≡ 4) ⊎ (size ≡ 8) → Passes all to version size bytes all.first bytes
passes_first {all} {to} {version} {size} {bytes} before ends sized = search (rules, append_cancel_right)

module _ {all to : Attributes} {version size : ℕ} {bytes : List ℕ} {at : ℕ} {rest : List ℕ}
    (p : Passes all to version size bytes at rest) where
  falling : Falls at (numbered_in (nodes_of all) at)
  falling = search (rules, falls)

  to_within : to.first ≤ length (nodes_of all)
  to_within = search rules

  to_starts : StartsAt to.first (numbered_in (nodes_of all) to.first)
  to_starts = search (rules, starts, to_within)

  -- at the list that is asked for all values are passed
  pub passes_last : at ≡ to.first → (before : List (Numbered AttributeSpec)) → Ends all to before
      → values_end version size (items_of before) bytes ≡ Ok rest
  unfolding values_end
  passes_last same before ends =
      let none : [] ≡ p.left = append_cancel_right [] p.left (numbered_in (nodes_of all) to.first)
      (ap (numbered_in (nodes_of all)) (sym same) ∙ p.goes) in
      sym (p.same before ends) ∙ (λ i. values_end version size (items_of (sym none i))
      rest)

  module _ (other : at ≡ to.first → ⊥) where
    pub some_left : 0 < at
    some_left = search (rules, above_by, falling, starts, to_starts)

    module _ {here : Node} (read : here ≡ get_or (nodes_of all) (at - 1) here) where
      is : IsKnown (nodes_of all) at here
      is = search (rules, node_read, some_left)

      pub here_addresses : 4 * here.addresses ≤ here.known_with_8
      here_addresses = search (rules, addresses_less, is)

      next_is : here.next_varying ≡ number_where varies (numbered_in (nodes_of all) at)
      next_is = is.knows.varying

      next_within : here.next_varying ≤ at
      next_within =
          let w = (split varies _ all.lists.now.known at p.within).within in omega (arith, next_is)

      pub next_number : here.next_varying ≤ length (nodes_of all)
      next_number = omega (arith, next_within)

      here_sum : known_with size here ≡ known_sum size (list_in (nodes_of all) at)
      here_sum = search (rules, known_is, is)

      -- the values up to the end are cut off together
      module _ {sum : ℕ} (sum_is : sum ≡ known_sum size (specs_in to)) where
        last_sum : known_with size here ≡ known_sum size (items_of p.left) + sum
        last_sum = grind (arith, common_steps, here_sum, sum_goes)

        pub last_less : sum ≤ known_with size here
        last_less = omega (arith, last_sum)

        pub last_cut : {len : ℕ} → len ≡ known_with size here → here.next_varying ≤ to.first
            → (before : List (Numbered AttributeSpec)) → Ends all to before
            → values_end version size (items_of before) bytes ≡ rest_beyond (len - sum) rest
        last_cut {len} len_is le before ends =
            search (rules, next_is, none_before, falling, to_starts, sum, last_sum, run)

      -- up to the next value of no one size
      pub next_turn : to.first < here.next_varying → {varying : Node}
          → varying ≡ get_or (nodes_of all) (here.next_varying - 1) varying
          → Turn (nodes_of all) size at to.first p.left here varying
      next_turn less {varying} there =
          let s = split varies (nodes_of all) all.lists.now.known at p.within in
          let v = node_read (nodes_of all) here.next_varying varying all.lists.now.known (omega (arith, less))
          next_number there in
          let front_goes : EndsWith (nodes_of all) at here.next_varying s.before = s.goes
          ∙ (λ i. s.before ++ numbered_in (nodes_of all) (sym next_is i)) in
          let part = part_at to.first (record { number = here.next_varying; item = spec_of varying })
          (numbered_in (nodes_of all) varying.next) s.before p.left (numbered_in (nodes_of all) to.first)
          (falls (nodes_of all) all.lists.now.known to.first to_within) to_starts less
          (sym p.goes ∙ front_goes ∙ (λ i. s.before ++ v.begins i)) in
          let next = v.next in
          record {
            front = s.before;
            others = part.others;
            none = s.none;
            parts = part.parts;
            goes_on = part.goes;
            sum = here_sum ∙ sum_goes size (nodes_of all) at here.next_varying s.before front_goes
                ∙ (λ i. known_sum size (items_of s.before)
                + sym (known_is size (numbered_in (nodes_of all) here.next_varying) varying p.sized v.knows) i);
            addresses = addresses_less (numbered_in (nodes_of all) here.next_varying) varying v.knows;
            within = omega (arith, next_number);
            less = omega (arith, next_within);
          }

  -- the values before it are cut off, it is passed, and the values after it are left
  module _ {here varying : Node} (t : Turn (nodes_of all) size at to.first p.left here varying) {a b : ℕ}
      (a_is : a ≡ known_with size here) (b_is : b ≡ known_with size varying) where
    passed : (before : List (Numbered AttributeSpec)) → Ends all to before
        → values_end version size (items_of before) bytes
        ≡ (rest_beyond (a - b) rest >>= λ mid. rest_at version varying.form size mid >>= λ more. values_end version size
        (items_of t.others) more)
    passed before ends = search (rules, one)

    pub cut_fails : {f : ValueFault} → rest_beyond (a - b) rest ≡ Err f → (before : List (Numbered AttributeSpec))
        → Ends all to before → values_end version size (items_of before) bytes ≡ Err f
    cut_fails e before ends = passed before ends ∙ rw e refl

    module _ {mid : List ℕ} (cut : rest_beyond (a - b) rest ≡ Ok mid) where
      pub value_fails : {f : ValueFault} → rest_at version varying.form size mid ≡ Err f
          → (before : List (Numbered AttributeSpec)) → Ends all to before
          → values_end version size (items_of before) bytes ≡ Err f
      value_fails e before ends = search (rules, passed)

      pub value_passes : {more : List ℕ} → rest_at version varying.form size mid ≡ Ok more
          → Passes all to version size bytes varying.next more
      value_passes e = search (rules, passed)
