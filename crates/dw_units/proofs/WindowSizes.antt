-- Children and sizes in a window are those of the batch alone.
use Rattle.std.proofs.Common.{rules, ◌≡◌, ℕ, ◌+◌, ◌-◌, zero, suc, ◌<◌, ◌≤◌, Bool, false, List, [], ◌∷◌, ◌++◌, map, flat_map, filter, Option, Some, None, refl, ap, ◌∙◌, arith, if◌then◌else◌, ◌||◌, All}
use Rattle.std.specs.List.{list_any, range_with_len}
use Rattle.std.proofs.lemmas.Bool.{false_from_ne_true}
use Rattle.dw_forms.specs.declared.rule.Rule.{Rule}
use Rattle.dw_entries.specs.Entries.{Entry, entries_of}
use Rattle.dw_types.specs.declared.kind.Kind.{Kind}
use Rattle.dw_types.specs.Children.{children_of, is_child, is_parent, IsChildOf}
use Rattle.dw_types.specs.Entries.{entry_in, signature_target, type_target}
use Rattle.dw_types.specs.Extents.{ends_past_container}
use Rattle.dw_types.specs.Kinds.{is_subrange}
use Rattle.dw_types.specs.Steps.{by_value, member_step, steps_by_value, targets_if}
use Rattle.dw_types.proofs.StepLemmas.{by_value-at, by_value-leads, length-by_value}
use Rattle.std.proofs.lemmas.List.{map-append}
use Rattle.dw_types.specs.SizeTables.{Size}
use Rattle.dw_types.specs.Sizes.{array_size, element_count, elements_by, factor_of, product_of, size_line, size_of_kind, size_to}
use Rattle.dw_types.specs.SizeFaults.{fails_size}
use Rattle.dw_links.proofs.TableLemmas.{target_within}
use Rattle.dw_types.proofs.SiblingLemmas.{children-all, parent_is, parent-first}
use Rattle.dw_units.proofs.MovedEntries.{Units, total, moved_number, moved}
use Rattle.dw_units.proofs.ReferenceLemmas.{eqb_moved}
use Rattle.dw_units.proofs.WindowLemmas.{raise, IsAmong, IsWindow, plain_same, count_same, has_target_same}

-- ---- lists of numbers

-- the first of which fail a test
filter_none : (P : ℕ → Bool) (n m a k : ℕ) → k ≡ n + m → ((j : ℕ) → a ≤ j → j < a + n → P j ≡ false)
    → filter P (range_with_len a k) ≡ filter P (range_with_len (a + n) m)
filter_none P zero m a k is none = search rules
filter_none P (suc n) m a k is none =
    let all : k ≡ suc (n + m) = omega (arith, is) in
    let here = none a (omega arith) (omega arith) in
    let next : a + 1 + n ≡ a + suc n = omega arith in
    rw (all, here) (rw next at (filter_none P n m (a + 1) (n + m) refl
    (λ j low high. none j (omega (arith, low)) (omega (arith, high)))))

-- the first of which pass it as others do, and the last of which fail it
filter_moved : (first : ℕ) (P Q : ℕ → Bool) (n m a b k : ℕ) → b ≡ first + a → k ≡ n + m
    → ((j : ℕ) → a ≤ j → j < a + n → P (first + j) ≡ Q j) → ((j : ℕ) → b + n ≤ j → j < b + k → P j ≡ false)
    → filter P (range_with_len b k) ≡ raise first (filter Q (range_with_len a n))
filter_moved first P Q zero m a b k is long same past =
    filter_none P m 0 b k (omega (arith, long)) (λ j low high. past j (omega (arith, low)) (omega (arith, high, long)))
filter_moved first P Q (suc n) m a b k is long same past =
    let all : k ≡ suc (n + m) = omega (arith, long) in
    let here = same a (omega arith) (omega arith) in
    let rest = filter_moved first P Q n m (a + 1) (b + 1) (n + m) (omega (arith, is)) refl
    (λ j low high. same j (omega (arith, low)) (omega (arith, high)))
    (λ j low high. past j (omega (arith, low)) (omega (arith, high, long))) in
    rw all (search (rules, is, here, rest))

targets_moved : (first : ℕ) (test : Bool) (o : Option ℕ)
    → targets_if test (moved_number first o) ≡ raise first (targets_if test o)
targets_moved first test o = search rules

row_parts : (first : ℕ) (own last : Bool) (type signature : Option ℕ) (xs ys : List ℕ) → xs ≡ raise first ys
    → targets_if own (moved_number first type) ++ xs ++ targets_if last (moved_number first signature)
    ≡ raise first (targets_if own type ++ ys ++ targets_if last signature)
row_parts first own last type signature xs ys is = search (rules, targets_moved, map-append, is)

parent_of_moved : (first : ℕ) (o : Option ℕ) (node : ℕ)
    → is_parent (moved_number first o) (first + node) ≡ is_parent o node
parent_of_moved first o node = search (rules, eqb_moved)

-- whether a member ends past its container does not depend on its place
past_moved : (number first : ℕ) (container : Size) (e : Entry) (size : Size)
    → ends_past_container container (moved number first e) size ≡ ends_past_container container e size
past_moved number first container e size = search rules

module _ {all : Units} {number first : ℕ} {units : Units}
    (w : IsWindow all number first units) where
  -- ---- children

  child_moved : (inner k : ℕ) → k < total units
      → is_child (entries_of all) (first + inner) (first + k) ≡ is_child (entries_of units) inner k
  child_moved inner k within = search (rules, parent_of_moved)

  no_child : (inner k : ℕ) → inner < total units → k < total all → ((j : ℕ) → j < total units → k ≡ first + j → ⊥)
      → is_child (entries_of all) (first + inner) k ≡ false
  no_child inner k inside below outside =
      false_from_ne_true (is_child (entries_of all) (first + inner) k) (λ yes.
      let (j, within, here) = w.children k inner below inside
      (parent_is (entry_in all k).parent (first + inner) yes) in
      outside j within here)

  children_moved : (inner : ℕ) → inner < total units → children_of (entries_of all) (first + inner)
      ≡ raise first (children_of (entries_of units) inner)
  unfolding children_of
  children_moved inner inside =
      let n : ℕ = total units in
      let rest : ℕ = total all - (first + n) in
      let within = w.within (n - 1) (omega (arith, inside)) in
      let P : ℕ → Bool = is_child (entries_of all) (first + inner) in
      filter_none P first (n + rest) 0 (total all) (omega (arith, within, inside))
      (λ k low high. no_child inner k inside (omega (arith, high, within)) (λ j j_in is. omega (arith, is, high)))
      ∙ filter_moved first P (is_child (entries_of units) inner) n rest 0 (0 + first) (n + rest) (omega arith) refl
      (λ k low high. child_moved inner k (omega (arith, high)))
      (λ k low high. no_child inner k inside (omega (arith, high, within))
      (λ j j_in is. omega (arith, is, low, j_in)))

  -- ---- steps by value

  members_moved : (inner : ℕ) (ks : List ℕ) → All (IsChildOf (entries_of units) inner) ks
      → flat_map (member_step all) (raise first ks) ≡ raise first (flat_map (member_step units) ks)
  members_moved inner [] are = refl
  members_moved inner (k ∷ ks) are =
      let within = (are 0 k (omega arith)).0 in
      let more = members_moved inner ks (λ j d below. are (suc j) d (omega (arith, below))) in
      search (rules, (plain_same w k within), targets_moved, map-append, more)

  row_moved : (k : ℕ) → k < total units → steps_by_value all (first + k) ≡ raise first (steps_by_value units k)
  row_moved k within =
      let members = members_moved k _ (children-all (entries_of units) k) in
      search (rules, (children_moved k within), members, row_parts)

  pub graph_of : IsAmong (by_value all) (by_value units) first (total units)
  graph_of = search (rules, length-by_value, by_value-at, (w.within), row_moved, by_value-leads)

  -- ---- the number of elements of an array

  factor_same : (k : ℕ) → k < total units → factor_of all (first + k) ≡ factor_of units k
  factor_same k within = search (rules, count_same)

  module _ (inner : ℕ) where
    subranges_same : (ks : List ℕ) → All (IsChildOf (entries_of units) inner) ks
        → list_any (λ child. is_subrange (entry_in all child)) (raise first ks)
        ≡ list_any (λ child. is_subrange (entry_in units child)) ks
    subranges_same [] are = refl
    subranges_same (k ∷ ks) are =
        let here = w.entries k (are 0 k (omega arith)).0 in
        let more = subranges_same ks (λ j d below. are (suc j) d (omega (arith, below))) in
        λ i. is_subrange (here i) || more i

    factors_same : (ks : List ℕ) → All (IsChildOf (entries_of units) inner) ks
        → map (factor_of all) (raise first ks) ≡ map (factor_of units) ks
    factors_same [] are = refl
    factors_same (k ∷ ks) are =
        let here = factor_same k (are 0 k (omega arith)).0 in
        let more = factors_same ks (λ j d below. are (suc j) d (omega (arith, below))) in
        λ i. here i ∷ more i

  elements_same : (inner : ℕ) → inner < total units → element_count all (first + inner) ≡ element_count units inner
  elements_same inner inside =
      let ks = children_of (entries_of units) inner in
      let are = children-all (entries_of units) inner in
      ap (elements_by all) (children_moved inner inside)
      ∙ (λ i. if subranges_same inner ks are i then product_of (factors_same inner ks are i) else None)

  -- ---- sizes, by a table of all and one of the batch alone that agree

  module _ (table lone : ℕ → Size)
      (agree : (k : ℕ) → k < total units → table (first + k) ≡ lone k) where
    to_moved : (o : Option ℕ) → ((k : ℕ) → o ≡ Some k → k < total units)
        → size_to table (moved_number first o) ≡ size_to lone o
    to_moved o below = search rules

    module _ (inner : ℕ) (inside : inner < total units) where
      type_moved : size_to table (type_target all (first + inner)) ≡ size_to lone (type_target units inner)
      type_moved = search (rules, to_moved, target_within)

      signature_moved : size_to table (signature_target all (first + inner))
          ≡ size_to lone (signature_target units inner)
      signature_moved = search (rules, to_moved, target_within)

      parent_moved : size_to table (entry_in all (first + inner)).parent ≡ size_to lone (entry_in units inner).parent
      parent_moved = search (rules, to_moved, parent-first)

      array_moved : array_size all table (first + inner) ≡ array_size units lone inner
      array_moved = search (rules, elements_same, type_moved)

      kind_moved : (kind : Kind) → size_of_kind kind all table (first + inner) ≡ size_of_kind kind units lone inner
      kind_moved kind = search (rules, signature_moved, type_moved, array_moved)

      pub line_moved : size_line all table (first + inner) ≡ size_line units lone inner
      line_moved = search (rules, kind_moved)

      pub fails_moved : (rule : Rule) → fails_size all table (first + inner) rule ≡ fails_size units lone inner rule
      fails_moved rule = search (rules, plain_same, parent_moved, type_moved, past_moved, has_target_same)
