-- Areas: the addresses that ranges have after one is added, and where an address is among areas.
use Rattle.std.proofs.Common.{◌≡◌, ℕ, ◌+◌, ◌-◌, ◌<◌, ◌≤◌, max, List, [], ◌∷◌, ◌++◌, length, get_or, take, set, drop}
use Rattle.std.proofs.Common.{refl, sym, ap, ◌∙◌, subst, arith, inl, inr, ◌⊎◌, ◌↔◌, Some}
use Rattle.std.specs.Prelude.{All, AllPairs, IsPermutation}
use Rattle.std.proofs.lemmas.Bool.{cases_lt, cases_order}
use Rattle.std.proofs.lemmas.List.{get_or_append_left, get_or_default, get_or_push, length_push, length-take}
use Rattle.std.proofs.lemmas.List.{take_more, take_more_set, get_or-drop, drop-drop}
use Rattle.std.proofs.lemmas.List.Elements.{All-push, All-pop, All-weaker, Contains-push_cases, Contains-append_left}
use Rattle.std.proofs.lemmas.List.Quantifiers.{Any-push, all_pairs_push}
use Rattle.std.proofs.lemmas.List.Sorted.{Contains-permutation, IsPermutation-sym}
use Rattle.dw_ranges.specs.Areas.{AreAreas, Has, IsCovered, IsIn, Joins}
use Rattle.dw_ranges.specs.declared.range.Range.{Range}

-- ---- what ranges have

-- in another order they have the same addresses
has_permuted : (xs ys : List Range) (a : ℕ) → IsPermutation xs ys → Has xs a → Has ys a
has_permuted xs ys a moved h =
    let there = Contains-permutation xs ys h.1 moved (h.0, h.2, h.3) in
    (there.0, h.1, there.1, there.2, h.4)

-- one more range
has_left : (xs : List Range) (y : Range) (a : ℕ) → Has xs a → Has (xs ++ y ∷ []) a
has_left xs y a h =
    let there = Contains-append_left xs (y ∷ []) h.1 (h.0, h.2, h.3) in
    (there.0, h.1, there.1, there.2, h.4)

has_cases : (xs : List Range) (y : Range) (a : ℕ) → Has (xs ++ y ∷ []) a → Has xs a ⊎ IsIn a y
has_cases xs y a h = elim (Contains-push_cases xs y h.1 (h.0, h.2, h.3)) [
  | inl there ↦ inl (there.0, h.1, there.1, there.2, h.4)
  | inr same ↦ inr (subst (IsIn a) (sym same) h.4)
]

pub has_pushed : (xs : List Range) (y : Range) (a : ℕ) → Has (xs ++ y ∷ []) a ↔ (Has xs a ⊎ IsIn a y)
has_pushed xs y a =
    (has_cases xs y a, λ s. elim s [ inl h ↦ has_left xs y a h | inr p ↦ Any-push (IsIn a) xs y p ])

-- ---- pairs in a list with one more element

pairs_before : {X : Type 0} (R : X → X → Type 0) (xs : List X) (y : X) → AllPairs R (xs ++ y ∷ []) → AllPairs R xs
pairs_before R xs y h i j d lt in' =
    let long = length_push xs y in
    let at_i = get_or_append_left xs (y ∷ []) d i (omega arith) in
    let at_j = get_or_append_left xs (y ∷ []) d j in' in
    subst (λ x. R x (get_or xs j d)) at_i (subst (R (get_or (xs ++ y ∷ []) i d)) at_j (h i j d lt (omega arith)))

pairs_last : {X : Type 0} (R : X → X → Type 0) (xs : List X) (y : X) → AllPairs R (xs ++ y ∷ []) → All (λ x. R x y) xs
pairs_last R xs y h k d in' =
    let long = length_push xs y in
    let at_k = get_or_append_left xs (y ∷ []) d k in' in
    let at_last = get_or_push xs y d (length xs) refl in
    subst (λ x. R x y) at_k (subst (R (get_or (xs ++ y ∷ []) k d)) at_last (h k (length xs) d in' (omega arith)))

-- ---- one more range

abbrev pub IsSome : Range → Type 0
IsSome r = r.low < r.high

abbrev Ends : Range → Range → Type 0
Ends r s = r.high < s.low

abbrev pub StartsUpTo : ℕ → Range → Type 0
StartsUpTo a r = r.low ≤ a

abbrev pub EndsBelow : ℕ → Range → Type 0
EndsBelow a r = r.high < a

-- the ranges before the last area, and the last one
front : (f : List Range) (l : Range) → AreAreas (f ++ l ∷ []) → AreAreas f × IsSome l × All (EndsBelow l.low) f
front f l areas =
    let (all, last) = All-pop IsSome (f ++ l ∷ []) f (Some l) refl areas.some in
    (record { some = all; apart = pairs_before Ends f l areas.apart }, last, pairs_last Ends f l areas.apart)

-- areas, and one after them
after_all : (xs : List Range) (r : Range) → AreAreas xs → IsSome r → All (EndsBelow r.low) xs → AreAreas (xs ++ r ∷ [])
after_all xs r areas some ends = record {
  some = All-push IsSome xs r areas.some some;
  apart = all_pairs_push Ends xs r areas.apart ends;
}

-- a range above the end of all areas
pub joins_apart : (xs : List Range) (r : Range) → AreAreas xs → All (StartsUpTo r.low) xs → IsSome r
    → All (EndsBelow r.low) xs → Joins xs r (xs ++ r ∷ [])
joins_apart xs r areas below some ends = record {
  areas = after_all xs r areas some ends;
  same = has_pushed xs r;
  below = All-push (StartsUpTo r.low) xs r below (omega arith);
}

-- the last area up to the end of a range that it touches
abbrev pub grown : Range → Range → Range
grown l r = record { low = l.low; high = max l.high r.high }

grown_cases : (l r : Range) (a : ℕ) → r.low ≤ l.high → IsIn a (grown l r) → IsIn a l ⊎ IsIn a r
grown_cases l r a touch p = elim (cases_lt a l.high) [
  | inl lt ↦ inl (p.0, lt)
  | inr ge ↦ inr (omega arith, omega (arith, p.1))
]

joins_front : (f : List Range) (l r : Range) → AreAreas (f ++ l ∷ []) → All (StartsUpTo r.low) (f ++ l ∷ []) → IsSome r
    → r.low ≤ l.high → Joins (f ++ l ∷ []) r (f ++ grown l r ∷ [])
joins_front f l r areas below some touch =
    let (before, last, ends) = front f l areas in
    let (starts, last_starts) = All-pop (StartsUpTo r.low) (f ++ l ∷ []) f (Some l) refl below in
    record {
      areas = after_all f (grown l r) before (omega arith) ends;
      same = λ a. (
        λ h. elim (has_cases f (grown l r) a h) [
          | inl there ↦ inl (has_left f l a there)
          | inr p ↦ elim (grown_cases l r a touch p) [
            | inl q ↦ inl (Any-push (IsIn a) f l q)
            | inr q ↦ inr q
          ]
        ],
        λ s. elim s [
          | inl h ↦ elim (has_cases f l a h) [
            | inl there ↦ has_left f (grown l r) a there
            | inr q ↦ Any-push (IsIn a) f (grown l r) (q.0, omega (arith, q.1))
          ]
          | inr q ↦ Any-push (IsIn a) f (grown l r) (omega (arith, q.0), omega (arith, q.1))
        ],
      );
      below = All-push (StartsUpTo r.low) f (grown l r) starts last_starts;
    }

-- ---- the same in the front of a slice

module _ (s : List Range) (m : ℕ) (r d : Range) (within : m < length s) where
  pub joins_touching : AreAreas (take (m + 1) s) → All (StartsUpTo r.low) (take (m + 1) s) → IsSome r
      → r.low ≤ (get_or s m d).high → Joins (take (m + 1) s) r (take (m + 1) (set s m (grown (get_or s m d) r)))
  joins_touching areas below some touch =
      rw (take_more s m d within, take_more_set s m (grown (get_or s m d) r) within)
      (joins_front (take m s) (get_or s m d) r (rw (take_more s m d within) at areas)
      (rw (take_more s m d within) at below) some touch)

  -- all areas end below an address that is above the end of the last one
  pub all_end : AreAreas (take (m + 1) s) → (get_or s m d).high < r.low → All (EndsBelow r.low) (take (m + 1) s)
  all_end areas ends =
      let (before, last, upto) = front (take m s) (get_or s m d) (rw (take_more s m d within) at areas) in
      rw (take_more s m d within)
      (All-push (EndsBelow r.low) (take m s) (get_or s m d)
      (All-weaker (EndsBelow (get_or s m d).low) (EndsBelow r.low) (λ x e. omega arith) (take m s) upto) ends)

-- a range that is put after all areas
pub joins_put : (s : List Range) (n : ℕ) (r : Range) → n < length s → AreAreas (take n s)
    → All (StartsUpTo r.low) (take n s) → IsSome r → All (EndsBelow r.low) (take n s)
    → Joins (take n s) r (take (n + 1) (set s n r))
joins_put s n r within areas below some ends =
    rw (take_more_set s n r within) (joins_apart (take n s) r areas below some ends)

-- no area ends at all
pub no_areas : (s : List Range) (n : ℕ) (a : ℕ) → n ≤ 0 → All (EndsBelow a) (take n s)
no_areas s n a none k d in' = absurd (omega (arith, in', length-take n s))

-- ---- the loop over ranges in order

-- lists with the same end from a place on have the same element there, and the same end from later ones on
pub at_drop : (k : ℕ) (xs ys : List Range) (d : Range) → drop k xs ≡ drop k ys → get_or xs k d ≡ get_or ys k d
at_drop k xs ys d same =
    let e : k + 0 ≡ k = omega arith in
    sym (get_or-drop k xs 0 d ∙ ap (λ n. get_or xs n d) e) ∙ ap (λ l. get_or l 0 d) same
    ∙ (get_or-drop k ys 0 d ∙ ap (λ n. get_or ys n d) e)

pub drop_later : (n m : ℕ) (xs ys : List Range) → n ≤ m → drop n xs ≡ drop n ys → drop m xs ≡ drop m ys
drop_later n m xs ys le same =
    let e : n + (m - n) ≡ m = omega arith in
    subst (λ j. drop j xs ≡ drop j ys) e
    (sym (drop-drop (m - n) n xs) ∙ ap (drop (m - n)) same ∙ drop-drop (m - n) n ys)

-- what the areas of the first ranges have with one more range, the first ranges and that one have
pub joined_more : (before after xs : List Range) (k : ℕ) (r d : Range) → k < length xs → get_or xs k d ≡ r
    → Joins before r after → ((a : ℕ) → Has before a ↔ Has (take k xs) a) → (a : ℕ)
    → Has after a ↔ Has (take (k + 1) xs) a
joined_more before after xs k r d in' is joins same a =
    let first = joins.same a in
    let last = has_pushed (take k xs) (get_or xs k d) a in
    let there : IsIn a r → IsIn a (get_or xs k d) = subst (IsIn a) (sym is) in
    let back : IsIn a (get_or xs k d) → IsIn a r = subst (IsIn a) is in
    rw (take_more xs k d in') (
      λ h. last.1 (elim (first.0 h) [ inl b ↦ inl ((same a).0 b) | inr p ↦ inr (there p) ]),
      λ h. first.1 (elim (last.0 h) [ inl t ↦ inl ((same a).1 t) | inr p ↦ inr (back p) ]),
    )

-- in another order ranges have the same addresses
pub has_sorted : (xs ys zs : List Range) → IsPermutation xs ys → ((a : ℕ) → Has zs a ↔ Has ys a) → (a : ℕ)
    → Has zs a ↔ Has xs a
has_sorted xs ys zs moved same a = (
  λ h. has_permuted ys xs a (IsPermutation-sym xs ys moved) ((same a).0 h),
  λ h. (same a).1
      (has_permuted xs ys a moved h),
)

-- ---- where an address is among areas

module _ (xs : List Range) (areas : AreAreas xs) where
  -- every address up to the end of an area is in it
  pub covered : (k : ℕ) (r d : Range) → k < length xs → IsIn r.low (get_or xs k d) → r.high ≤ (get_or xs k d).high
      → IsCovered xs r
  covered k r d in' low high a p = (
    k,
    get_or xs k d,
    in',
    get_or_default xs k (get_or xs k d) d in',
    (omega (arith, low.0, p.0), omega (arith, high, p.1)),
  )

  -- the end of an area is in none
  end_outside : (k : ℕ) (d : Range) → k < length xs → Has xs (get_or xs k d).high → ⊥
  end_outside k d in' h =
      let a = (get_or xs k d).high in
      let here : IsIn a (get_or xs h.0 h.1) = subst (IsIn a) (sym h.3) h.4 in
      let end : a ≡ (get_or xs k h.1).high = ap (λ (r : Range). r.high) (get_or_default xs k d h.1 in') in
      elim (cases_order h.0 k) [
        | inl same ↦ let there = subst (λ j. a < (get_or xs j h.1).high) same here.1 in
            absurd (omega (arith, there, end))
        | inr other ↦ elim other [
          | inl lt ↦ absurd (omega (arith, areas.apart h.0 k h.1 lt in', areas.some k h.1 in', here.1, end))
          | inr gt ↦ absurd (omega (arith, areas.apart k h.0 h.1 gt h.2, here.0, end))
        ]
      ]

  -- a range that goes on after the area in which it starts is not covered
  pub uncovered : (k : ℕ) (r d : Range) → k < length xs → IsIn r.low (get_or xs k d) → (get_or xs k d).high < r.high
      → IsCovered xs r → ⊥
  uncovered k r d in' low high all =
      end_outside k d in' (all (get_or xs k d).high (omega (arith, low.1), high))
