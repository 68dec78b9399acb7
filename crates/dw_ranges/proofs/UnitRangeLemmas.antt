-- Which unit has an address.
use Rattle.std.proofs.Common.{◌≡◌, ℕ, ◌+◌, ◌<◌, ◌≤◌, ◌↔◌, List, [], ◌∷◌, length, get_or, max, false}
use Rattle.std.proofs.Common.{refl, sym, ap, ◌∙◌, subst, arith, inl, inr, ◌⊎◌, Result, Ok, Err}
use Rattle.std.proofs.Math.Numerals.{add-one}
use Rattle.std.specs.Prelude.{All, Any, Contains, IsPermutation, IfSome, IsSome, OnOk, Option, Some, None}
use Rattle.std.specs.BinaryHeap.{IsHeap, IsUpperBound, PopsGreatest}
use Rattle.std.specs.Ordering.{MatchOrdering, is_lt, nat_cmp, ordering_then}
use Rattle.std.specs.declared.cmp.Ordering.{Ordering}
use Rattle.std.specs.declared.cmp.Ordering.TheVariants.{Less, Equal, Greater}
use Rattle.std.specs.declared.cmp.Reverse.{Reverse}
use Rattle.std.proofs.lemmas.Bool.{cases_lt, true≢false}
use Rattle.std.proofs.lemmas.Cmp.{ranked}
use Rattle.std.proofs.lemmas.List.{get_or_default}
use Rattle.std.proofs.lemmas.List.Elements.{All-contains, All-cons, All-nil, All-tail, All-weaker}
use Rattle.std.proofs.lemmas.List.Sorted.{All-permutation, Contains-permutation, IsPermutation-sym}
use Rattle.std.proofs.lemmas.Map.Made.{Contains-tail}
use Rattle.dw_ranges.specs.UnitRanges.{IsFirstBegun, IsFirstUnit, IsInUnit, UnitHas, order_of}
use Rattle.dw_ranges.specs.declared.unit_ranges.UnitRange.{UnitRange}

-- no range that ends before an address has it
pub not_before : (xs : List UnitRange) (at a unit : ℕ) → All (λ x. x.high ≤ at) xs → at ≤ a → UnitHas xs a unit → ⊥
not_before xs at a unit before le h =
    let end = All-contains (λ (x : UnitRange). x.high ≤ at) xs h.1 before (h.0, h.2, h.3) in
    omega (arith, end, h.4.2, le)

-- ---- the first unit that is begun

one_bound : (a b : Ordering) (x y : Reverse (ℕ × ℕ))
    → MatchOrdering a (y.0.0 < x.0.0) (y.0.0 ≡ x.0.0) (x.0.0 < y.0.0)
    → is_lt (ordering_then a b) ≡ false → x.0.0 ≤ y.0.0
one_bound Less b x y p e = absurd (true≢false e)
one_bound Equal b x y p e = omega (arith, p)
one_bound Greater b x y p e = omega (arith, p)

pub bound_first : (x : Reverse (ℕ × ℕ)) (ys : List (Reverse (ℕ × ℕ))) → IsUpperBound order_of x ys
    → All (λ y. x.0.0 ≤ y.0.0) ys
bound_first x [] p = All-nil (λ y. x.0.0 ≤ y.0.0)
bound_first x (y ∷ ys) p =
    All-cons (λ z. x.0.0 ≤ z.0.0) y ys
    (one_bound (nat_cmp y.0.0 x.0.0) (nat_cmp y.0.1 x.0.1) x y (ranked y.0.0 x.0.0 (nat_cmp y.0.0 x.0.0) refl) p.0)
    (bound_first x ys p.1)

module _ (all now : List (Reverse (ℕ × ℕ))) (top : Reverse (ℕ × ℕ)) (at : ℕ) (fewer : All (Contains all) now)
    (kept : All (λ x. at < x.0.1 → Contains now x) all) (there : Contains now top)
    (first : All (λ y. top.0.0 ≤ y.0.0) now) where
  top_is_first : (a unit : ℕ) → at ≤ a → a < top.0.1 → IsFirstBegun all a unit ↔ (unit ≡ top.0.0)
  top_is_first a unit le lt =
      let in_all = All-contains (Contains all) now top fewer there in (
        λ h.
            let x = h.0.1 in
            let x_all : Contains all x = (h.0.0, h.0.2, h.0.3) in
            let high : at < x.0.1 = omega (arith, le, h.0.4.1) in
            let x_now = All-contains (λ y. at < y.0.1 → Contains now y) all x kept x_all high in
            let up : top.0.0 ≤ x.0.0 = All-contains (λ y. top.0.0 ≤ y.0.0) now x first x_now in
            let down : unit ≤ top.0.0 = All-contains (λ y. a < y.0.1 → unit ≤ y.0.0) all top h.1 in_all lt in
            omega (arith, h.0.4.0, up, down),
        λ same. (
          (in_all.0, top, in_all.1, in_all.2, (sym same, lt)),
          λ k d in'.
              λ below.
              let y = get_or all k d in
              let y_all : Contains all y = (k, in', get_or_default all k y d in') in
              let high : at < y.0.1 = omega (arith, le, below) in
              let y_now = All-contains (λ z. at < z.0.1 → Contains now z) all y kept y_all high in
              let up : top.0.0 ≤ y.0.0 = All-contains (λ z. top.0.0 ≤ z.0.0) now y first y_now in
              omega (arith, same, up),
        ),
      )

  -- with the range up to an end, which is no greater than that of the first unit, the ranges are right up to there
  pub found_more : (from end : ℕ) (xs ys : List UnitRange) → end ≤ top.0.1 → All (λ x. x.high ≤ at) xs
      → ((a unit : ℕ) → UnitHas ys a unit
      ↔ (UnitHas xs a unit ⊎ IsInUnit a unit (record { low = at; high = end; unit = top.0.0 })))
      → ((a unit : ℕ) → from ≤ a → a < at → UnitHas xs a unit ↔ IsFirstBegun all a unit)
      → (a unit : ℕ) → from ≤ a → a < max at end → UnitHas ys a unit ↔ IsFirstBegun all a unit
  found_more from end xs ys le before has found a unit ge lt = elim (cases_lt a at) [
    | inl less ↦ (
      λ h. elim ((has a unit).0 h) [
        | inl old ↦ (found a unit ge less).0 old
        | inr p ↦ absurd (omega (arith, p.1, less))
      ],
      λ f. (has a unit).1 (inl ((found a unit ge less).1 f)),
    )
    | inr more ↦
        let below : a < end = omega (arith, lt, more) in
        let one = top_is_first a unit more (omega (arith, below, le)) in (
          λ h. elim ((has a unit).0 h) [
            | inl old ↦ absurd (not_before xs at a unit before more old)
            | inr p ↦ one.1 (sym p.0)
          ],
          λ f. (has a unit).1 (inr (sym (one.0 f), more, below)),
        )
  ]

  -- what ends later is left when the first one is taken
  pub kept_more : (end : ℕ) (rest : List (Reverse (ℕ × ℕ))) → IsPermutation now (top ∷ rest) → at ≤ end → top.0.1 ≤ end
      → All (λ x. end < x.0.1 → Contains rest x) all
  kept_more end rest moved le ends k d in' later =
      let x = get_or all k d in
      let x_all : Contains all x = (k, in', get_or_default all k x d in') in
      let high : at < x.0.1 = omega (arith, le, later) in
      let x_now = All-contains (λ y. at < y.0.1 → Contains now y) all x kept x_all high in
      Contains-tail top rest x
      (λ same.
      let far : end < top.0.1 = subst (λ (y : Reverse (ℕ × ℕ)). end < y.0.1) (sym same) later in
      omega (arith, far, ends))
      (Contains-permutation now (top ∷ rest) x moved x_now)

  pub fewer_more : (rest : List (Reverse (ℕ × ℕ))) → IsPermutation now (top ∷ rest) → All (Contains all) rest
  fewer_more rest moved =
      All-tail (Contains all) top rest (All-permutation (Contains all) now (top ∷ rest) moved fewer)

-- the heap without its greatest element
pub popped : (r : Option (Reverse (ℕ × ℕ))) (old rest : List (Reverse (ℕ × ℕ))) (top : Reverse (ℕ × ℕ))
    → IfSome r (λ x. IsPermutation old (x ∷ rest)) → IfSome r (λ x. x ≡ get_or old 0 x) → IsSome r
    → top ≡ get_or old 0 top → 0 < length old → IsPermutation old (top ∷ rest)
popped None old rest top moved is some same within = absurd (true≢false (sym some))
popped (Some x) old rest top moved is some same within =
    subst (λ (y : Reverse (ℕ × ℕ)). IsPermutation old (y ∷ rest)) (is ∙ get_or_default old 0 x top within ∙ sym same)
    moved

pub popped_heap : (r : Option (Reverse (ℕ × ℕ))) (old rest : List (Reverse (ℕ × ℕ)))
    → IfSome r (λ x. PopsGreatest order_of old x rest) → IsSome r → IsHeap order_of old → IsHeap order_of rest
popped_heap None old rest pops some heap = absurd (true≢false (sym some))
popped_heap (Some x) old rest pops some heap = (pops heap).0

-- what is known of earlier addresses, with one more range
pub earlier_more : (xs ys zs : List UnitRange) (r : UnitRange) (from : ℕ) → from ≤ r.low
    → ((a unit : ℕ) → UnitHas ys a unit ↔ (UnitHas xs a unit ⊎ IsInUnit a unit r))
    → ((a unit : ℕ) → a < from → UnitHas xs a unit ↔ UnitHas zs a unit) → (a unit : ℕ) → a < from
    → UnitHas ys a unit ↔ UnitHas zs a unit
earlier_more xs ys zs r from le has earlier a unit lt = (
  λ h. elim ((has a unit).0 h) [
    | inl old ↦ (earlier a unit lt).0 old
    | inr p ↦ absurd (omega (arith, p.1, le, lt))
  ],
  λ h. (has a unit).1 (inl ((earlier a unit lt).1 h)),
)

-- where nothing is begun, no unit has a later address
pub none_begun : (all now : List (Reverse (ℕ × ℕ))) (xs : List UnitRange) (from at : ℕ)
    → All (λ x. at < x.0.1 → Contains now x) all → length now ≤ 0 → All (λ x. x.high ≤ at) xs
    → ((a unit : ℕ) → from ≤ a → a < at → UnitHas xs a unit ↔ IsFirstBegun all a unit) → (a unit : ℕ) → from ≤ a
    → UnitHas xs a unit ↔ IsFirstBegun all a unit
none_begun all now xs from at kept none before found a unit ge = elim (cases_lt a at) [
  | inl less ↦ found a unit ge less
  | inr more ↦ (
    λ h. absurd (not_before xs at a unit before more h),
    λ f.
        let x = f.0.1 in
        let high : at < x.0.1 = omega (arith, more, f.0.4.1) in
        let there = All-contains (λ y. at < y.0.1 → Contains now y) all x kept (f.0.0, f.0.2, f.0.3) high in
        absurd (omega (arith, there.1, none)),
  )
]

-- ---- all ranges that start up to an address are begun

-- one of all ranges that starts up to an address is this one
abbrev pub HasBegun : List UnitRange → ℕ → Reverse (ℕ × ℕ) → Type 0
HasBegun all from x = Any (λ r. (r.unit ≡ x.0.0) × (r.high ≡ x.0.1) × (r.low ≤ from)) all

-- the unit and the end of a range
abbrev pub begun_of : UnitRange → Reverse (ℕ × ℕ)
begun_of r = record { 0 = (r.unit, r.high) }

-- a range that ends after an address is among those that are begun
abbrev pub IsKept : ℕ → List (Reverse (ℕ × ℕ)) → UnitRange → Type 0
IsKept from begun r = from < r.high → Contains begun (begun_of r)

module _ (all : List UnitRange) (begun : List (Reverse (ℕ × ℕ))) (k from limit : ℕ)
    (fewer : All (HasBegun all from) begun)
    (kept : (j : ℕ) (d : UnitRange) → j < k → IsKept from begun (get_or all j d))
    (rises : (j : ℕ) (d : UnitRange) → k ≤ j → j < length all → limit ≤ (get_or all j d).low) where
  unit_begun : (a unit : ℕ) → from ≤ a → a < limit → UnitHas all a unit
      → Any (λ (x : Reverse (ℕ × ℕ)). (x.0.0 ≡ unit) × (a < x.0.1)) begun
  unit_begun a unit ge lt (j, r, in_j, is_j, (same, low, high)) = elim (cases_lt j k) [
    | inl less ↦
        let there = kept j r less (subst (λ (x : UnitRange). from < x.high) (sym is_j) (omega arith)) in
        let at_r = subst (λ (x : UnitRange). Contains begun (begun_of x)) is_j there in
        (at_r.0, begun_of r, at_r.1, at_r.2, (same, high))
    | inr more ↦
        let up = rises j r more in_j in
        let at_r : limit ≤ r.low = subst (λ (x : UnitRange). limit ≤ x.low) is_j up in
        absurd (omega (arith, at_r, low, lt))
  ]

  begun_unit : (a : ℕ) (x : Reverse (ℕ × ℕ)) → from ≤ a → Contains begun x → a < x.0.1 → UnitHas all a x.0.0
  begun_unit a x ge there lt =
      let h = All-contains (HasBegun all from) begun x fewer there in
      (h.0, h.1, h.2, h.3, (h.4.0, omega (arith, h.4.2, ge), omega (arith, h.4.1, lt)))

  pub first_begun : (a unit : ℕ) → from ≤ a → a < limit → IsFirstBegun begun a unit ↔ IsFirstUnit all a unit
  first_begun a unit ge lt = (
    λ f.
        let x = f.0.1 in
        let has = begun_unit a x ge (f.0.0, f.0.2, f.0.3) f.0.4.1 in (
          subst (UnitHas all a) f.0.4.0 has,
          λ other h.
              let y = unit_begun a other ge lt h in
              let le : unit ≤ y.1.0.0 = All-contains (λ (z : Reverse (ℕ × ℕ)). a < z.0.1 → unit ≤ z.0.0) begun y.1 f.1
              (y.0, y.2, y.3) y.4.1 in
              omega (arith, le, y.4.0),
        ),
    λ f. (
      unit_begun a unit ge lt f.0,
      λ j d in' high.
          let x = get_or begun j d in
          f.1 x.0.0 (begun_unit a x ge (j, in', get_or_default begun j x d in') high),
    ),
  )

  -- with the ranges up to the limit, each address below it has its first unit
  pub found_up_to : (xs ys : List UnitRange) → ((a unit : ℕ) → a < from → UnitHas xs a unit ↔ IsFirstUnit all a unit)
      → ((a unit : ℕ) → a < from → UnitHas ys a unit ↔ UnitHas xs a unit)
      → ((a unit : ℕ) → from ≤ a → a < limit → UnitHas ys a unit ↔ IsFirstBegun begun a unit) → (a unit : ℕ) → a < limit
      → UnitHas ys a unit ↔ IsFirstUnit all a unit
  found_up_to xs ys found earlier more a unit lt = elim (cases_lt a from) [
    | inl less ↦
        let e = earlier a unit less in
        let f = found a unit less in
        (λ h. f.0 (e.0 h), λ g. e.1 (f.1 g))
    | inr ge ↦
        let e = more a unit ge lt in
        let f = first_begun a unit ge lt in
        (λ h. f.0 (e.0 h), λ g. e.1 (f.1 g))
  ]

-- no address above all ends has a unit
pub found_all : (all ys : List UnitRange) (limit : ℕ) → All (λ x. x.high ≤ limit) ys → All (λ x. x.high ≤ limit) all
    → ((a unit : ℕ) → a < limit → UnitHas ys a unit ↔ IsFirstUnit all a unit) → (a unit : ℕ)
    → UnitHas ys a unit ↔ IsFirstUnit all a unit
found_all all ys limit ends all_end found a unit = elim (cases_lt a limit) [
  | inl less ↦ found a unit less
  | inr more ↦ (
    λ h. absurd (not_before ys limit a unit ends more h),
    λ f. absurd (not_before all limit a unit all_end more f.0),
  )
]

-- the ranges that are begun, with one more
cons_there : (x y : Reverse (ℕ × ℕ)) (xs : List (Reverse (ℕ × ℕ))) → Contains xs y → Contains (x ∷ xs) y
cons_there x y xs there = (there.0 + 1, omega (arith, there.1), rw add-one there.2)

module _ (all : List UnitRange) (begun closed pushed : List (Reverse (ℕ × ℕ))) (r : UnitRange) (k from : ℕ)
    (within : k < length all) (is : get_or all k r ≡ r) (le : from ≤ r.low)
    (moved : IsPermutation (begun_of r ∷ closed) pushed) where
  pub fewer_pushed : All (HasBegun all from) begun → All (Contains begun) closed → All (HasBegun all r.low) pushed
  fewer_pushed fewer among =
      All-permutation (HasBegun all r.low) (begun_of r ∷ closed) pushed moved
      (All-cons (HasBegun all r.low) (begun_of r) closed (k, r, within, is, (refl, refl, omega arith))
      (All-weaker (Contains begun) (HasBegun all r.low) (λ x there.
      let h = All-contains (HasBegun all from) begun x fewer there in
      (h.0, h.1, h.2, h.3, (h.4.0, h.4.1, omega (arith, h.4.2, le)))) closed among))

  pub kept_pushed : ((j : ℕ) (d : UnitRange) → j < k → IsKept from begun (get_or all j d))
      → All (λ x. r.low < x.0.1 → Contains closed x) begun → (j : ℕ) (d : UnitRange) → j < k + 1
      → IsKept r.low pushed (get_or all j d)
  kept_pushed kept later j d lt high = elim (cases_lt j k) [
    | inl less ↦
        let x = begun_of (get_or all j d) in
        let there = All-contains (λ (y : Reverse (ℕ × ℕ)). r.low < y.0.1 → Contains closed y) begun x later
        (kept j d less (omega (arith, high, le))) high in
        Contains-permutation (begun_of r ∷ closed) pushed x moved (cons_there (begun_of r) x closed there)
    | inr more ↦
        let same : k ≡ j = omega arith in
        let at_j : r ≡ get_or all j d = sym is ∙ get_or_default all k r d within ∙ ap (λ n. get_or all n d) same in
        subst (λ (x : UnitRange). Contains pushed (begun_of x)) at_j
        (Contains-permutation (begun_of r ∷ closed) pushed (begun_of r) moved (0, omega arith, refl))
  ]

-- ranges in another order have the same first units
has_permuted : (xs ys : List UnitRange) (a unit : ℕ) → IsPermutation xs ys → UnitHas xs a unit → UnitHas ys a unit
has_permuted xs ys a unit moved h =
    let there = Contains-permutation xs ys h.1 moved (h.0, h.2, h.3) in (there.0, h.1, there.1, there.2, h.4)

pub first_permuted : (xs ys zs : List UnitRange) → IsPermutation xs ys
    → ((a unit : ℕ) → UnitHas zs a unit ↔ IsFirstUnit ys a unit) → (a unit : ℕ)
    → UnitHas zs a unit ↔ IsFirstUnit xs a unit
first_permuted xs ys zs moved found a unit =
    let back = IsPermutation-sym xs ys moved in (
      λ h.
          let f = (found a unit).0 h in
          (has_permuted ys xs a unit back f.0, λ other g. f.1 other (has_permuted xs ys a other moved g)),
      λ f. (found a unit).1
          (has_permuted xs ys a unit moved f.0, λ other g. f.1 other (has_permuted ys xs a other back g)),
    )

pub on_ok : {A E : Type 0} (r : Result A E) {P Q : Type 0} → OnOk r P → (P → Q) → OnOk r Q
on_ok (Ok a) p then = then p
on_ok (Err e) p then = tt
