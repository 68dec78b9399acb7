-- Live ranges: an area has every address of a range exactly if it has the first one, and the range ends in it.
use Rattle.std.proofs.Common.{◌≡◌, ℕ, ◌+◌, ◌<◌, ◌≤◌, List, length, get_or, take, set, Bool, true, false, leb, not, ◌&&◌}
use Rattle.std.proofs.Common.{refl, sym, ap, ◌∙◌, subst, arith, inl, inr}
use Rattle.std.specs.Prelude.{count_by}
use Rattle.std.specs.List.{list_any}
use Rattle.std.proofs.lemmas.Bool.{and_from, and_parts, cases_order, both_ways, false≢true}
use Rattle.std.proofs.lemmas.Bool.{and_left, and_right, le-leb, leb-true, false_from_ne_true, lt-ltb, le-ltb}
use Rattle.std.proofs.lemmas.Bool.{not_from_true, not_from_false}
use Rattle.std.proofs.lemmas.List.Filters.{FiltersInPlace, FiltersInPlace-more_set, FiltersInPlace-more_no}
use Rattle.std.proofs.lemmas.List.Sums.{count_by_more_yes, count_by_more_no}
use Rattle.std.proofs.lemmas.List.{get_or_default}
use Rattle.std.proofs.lemmas.List.Recursion.{or_is}
use Rattle.dw_ranges.specs.Areas.{AreAreas, Has, IsIn}
use Rattle.dw_ranges.specs.Live.{has_some, is_dead, is_live, is_within}
use Rattle.dw_ranges.specs.declared.range.Range.{Range}
use Rattle.dw_ranges.proofs.AreaLemmas.{at_drop}

module _ (code : List Range) (areas : AreAreas code) (r : Range) (some : r.low < r.high) where
  abbrev Encloses : Range → Bool
  Encloses area = leb area.low r.low && leb r.high area.high

  -- no area but the one with the first address has all
  other_not : (k i : ℕ) (d : Range) → k < length code → i < length code → IsIn r.low (get_or code k d)
      → leb r.high (get_or code k d).high ≡ false → Encloses (get_or code i d) ≡ true → ⊥
  other_not k i d in_k in_i first short all =
      let (low, high) = and_parts (leb (get_or code i d).low r.low) (leb r.high (get_or code i d).high) all in
      let starts = leb-true (get_or code i d).low r.low low in
      let ends = leb-true r.high (get_or code i d).high high in
      elim (cases_order i k) [
        | inl same ↦
            both_ways (leb r.high (get_or code k d).high) short
            (subst (λ n. leb r.high (get_or code n d).high ≡ true) same high)
        | inr other ↦ elim other [
          | inl lt ↦ omega (arith, areas.apart i k d lt in_k, first.0, ends)
          | inr gt ↦ omega (arith, areas.apart k i d gt in_i, first.1, starts)
        ]
      ]

  -- the area that has the first address decides
  pub within_here : (k : ℕ) (d : Range) → k < length code → IsIn r.low (get_or code k d)
      → leb r.high (get_or code k d).high ≡ is_within code r
  within_here k d in' first =
      or_is (list_any Encloses) Encloses refl (λ _ _. refl) code d (leb r.high (get_or code k d).high)
      (λ ends. (
        k,
        in',
        and_from (leb (get_or code k d).low r.low) (leb r.high (get_or code k d).high)
            (le-leb (get_or code k d).low r.low first.0) ends,
      ))
      (λ short i in_i. false_from_ne_true (Encloses (get_or code i d)) (other_not k i d in' in_i first short))

  -- without one, no area has all
  pub within_none : (d : Range) → (Has code r.low → ⊥) → false ≡ is_within code r
  within_none d none =
      or_is (list_any Encloses) Encloses refl (λ _ _. refl) code d false (λ e. absurd (false≢true e))
      (λ e i in_i. false_from_ne_true (Encloses (get_or code i d)) (λ all.
      let (low, high) = and_parts (leb (get_or code i d).low r.low) (leb r.high (get_or code i d).high) all in
      none (
        i,
        get_or code i d,
        in_i,
        get_or_default code i (get_or code i d) d in_i,
        (leb-true (get_or code i d).low r.low low, omega (arith, leb-true r.high (get_or code i d).high high)),
      )))

-- ---- the loop that keeps live ranges

module _ (code xs ys : List Range) (n k dead : ℕ) (x : Range) (filters : FiltersInPlace (is_live code) xs ys n k)
    (within : k < length ys) (is : x ≡ get_or ys k x) (count : dead ≡ count_by (is_dead code) (take k xs)) where
  same_there : x ≡ get_or xs k x
  same_there = is ∙ at_drop k ys xs x filters.rest

  no_more : is_dead code x ≡ false → dead ≡ count_by (is_dead code) (take (k + 1) xs)
  no_more alive =
      count ∙ sym (count_by_more_no (is_dead code) xs k x (omega (arith, filters.long))
      (subst (λ (r : Range). is_dead code r ≡ false) same_there alive))

  pub live_more : is_live code x ≡ true → FiltersInPlace (is_live code) xs (set ys n x) (n + 1) (k + 1)
      × (dead ≡ count_by (is_dead code) (take (k + 1) xs))
  live_more live =
      let (some, in') = and_parts (has_some x) (is_within code x) live in (
        FiltersInPlace-more_set filters within live is,
        no_more (and_right (has_some x) (not (is_within code x)) (not_from_true (is_within code x) in')),
      )

  pub dead_more : is_live code x ≡ false → x.low < x.high → FiltersInPlace (is_live code) xs ys n (k + 1)
      × (dead + 1 ≡ count_by (is_dead code) (take (k + 1) xs))
  dead_more lost some =
      let has = lt-ltb x.low x.high some in
      let out : is_within code x ≡ false = sym (ap (λ b. b && is_within code x) has) ∙ lost in
      let gone = and_from (has_some x) (not (is_within code x)) has (not_from_false (is_within code x) out) in (
        FiltersInPlace-more_no filters within lost is,
        ap (λ m. m + 1) count ∙ sym (count_by_more_yes (is_dead code) xs k x (omega (arith, filters.long))
            (subst (λ (r : Range). is_dead code r ≡ true) same_there gone)),
      )

  pub none_more : is_live code x ≡ false → x.high ≤ x.low → FiltersInPlace (is_live code) xs ys n (k + 1)
      × (dead ≡ count_by (is_dead code) (take (k + 1) xs))
  none_more lost none = (
    FiltersInPlace-more_no filters within lost is,
    no_more (and_left (has_some x) (not (is_within code x)) (le-ltb x.low x.high none)),
  )
