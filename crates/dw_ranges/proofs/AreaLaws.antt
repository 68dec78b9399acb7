-- A set of addresses is that of one list of areas.
use Rattle.std.proofs.Common.{◌≡◌, ℕ, zero, suc, ◌<◌, ◌≤◌, ◌↔◌, List, [], ◌∷◌, length, get_or}
use Rattle.std.proofs.Common.{refl, sym, subst, arith, inl, inr, ◌⊎◌}
use Rattle.std.proofs.lemmas.Bool.{cases_order}
use Rattle.dw_ranges.specs.Areas.{AreAreas, Has, IsIn}
use Rattle.dw_ranges.specs.declared.range.Range.{Range}

abbrev no_range : Range
no_range = record { low = 0; high = 0 }

-- the first one, and those after it
tail_areas : (r : Range) (rs : List Range) → AreAreas (r ∷ rs) → AreAreas rs
tail_areas r rs are = record {
  some = λ k d in'. are.some (suc k) d (omega arith);
  apart = λ i j d lt in'. are.apart (suc i) (suc j) d (omega arith) (omega arith);
}

head_some : (r : Range) (rs : List Range) → AreAreas (r ∷ rs) → r.low < r.high
head_some r rs are = are.some 0 no_range (omega arith)

-- what is in later ones is above the end of the first one
above : (r : Range) (rs : List Range) (a : ℕ) → AreAreas (r ∷ rs) → Has rs a → r.high < a
above r rs a are h =
    let ends : r.high < (get_or rs h.0 h.1).low = are.apart 0 (suc h.0) h.1 (omega arith) (omega (arith, h.2)) in
    let low : (get_or rs h.0 h.1).low ≤ a = (subst (IsIn a) (sym h.3) h.4).0 in omega (arith, ends, low)

has_tail : (r : Range) (rs : List Range) (a : ℕ) → Has rs a → Has (r ∷ rs) a
has_tail r rs a h = (suc h.0, h.1, omega (arith, h.2), h.3, h.4)

split : (r : Range) (rs : List Range) (a k : ℕ) (d : Range) → k < length (r ∷ rs) → get_or (r ∷ rs) k d ≡ d → IsIn a d
    → IsIn a r ⊎ Has rs a
split r rs a zero d lt is p = inl (subst (IsIn a) (sym is) p)
split r rs a (suc k) d lt is p = inr (k, d, omega arith, is, p)

cases_has : (r : Range) (rs : List Range) (a : ℕ) → Has (r ∷ rs) a → IsIn a r ⊎ Has rs a
cases_has r rs a h = split r rs a h.0 h.1 h.2 h.3 h.4

head_has : (r : Range) (rs : List Range) (a : ℕ) → IsIn a r → Has (r ∷ rs) a
head_has r rs a p = (0, r, omega arith, refl, p)

-- all addresses are from the low one of the first on
from_low : (r : Range) (rs : List Range) (a : ℕ) → AreAreas (r ∷ rs) → Has (r ∷ rs) a → r.low ≤ a
from_low r rs a are h = elim (cases_has r rs a h) [
  | inl p ↦ p.0
  | inr later ↦ let up = above r rs a are later in let some = head_some r rs are in omega arith
]

-- the end of the first is in none
not_end : (r : Range) (rs : List Range) → AreAreas (r ∷ rs) → Has (r ∷ rs) r.high → ⊥
not_end r rs are h = elim (cases_has r rs r.high h) [
  | inl p ↦ omega (arith, p.1)
  | inr later ↦ let up = above r rs r.high are later in omega arith
]

module _ (r s : Range) (rs ss : List Range) (are : AreAreas (r ∷ rs)) (others : AreAreas (s ∷ ss))
    (to : (a : ℕ) → Has (r ∷ rs) a → Has (s ∷ ss) a) (from : (a : ℕ) → Has (s ∷ ss) a → Has (r ∷ rs) a) where
  -- the first of some areas does not start below, or end after, the first of others
  low_le : s.low ≤ r.low
  low_le =
      from_low s ss r.low others (to r.low (head_has r rs r.low (omega arith, head_some r rs are)))

  high_le : r.low ≡ s.low → s.high ≤ r.high
  high_le same = elim (cases_order s.high r.high) [
    | inl e ↦ omega (arith, e)
    | inr other ↦ elim other [
      | inl lt ↦ omega (arith, lt)
      | inr gt ↦
          let some = head_some r rs are in
          absurd (not_end r rs are (from r.high (head_has s ss r.high (omega (arith, same, some), gt))))
    ]
  ]

  tail_to : r.high ≡ s.high → (a : ℕ) → Has rs a → Has ss a
  tail_to same a h = elim (cases_has s ss a (to a (has_tail r rs a h))) [
    | inl p ↦ let up = above r rs a are h in absurd (omega (arith, up, p.1, same))
    | inr later ↦ later
  ]

areas_equal : (xs ys : List Range) → AreAreas xs → AreAreas ys → ((a : ℕ) → Has xs a → Has ys a)
    → ((a : ℕ) → Has ys a → Has xs a) → xs ≡ ys
areas_equal [] [] are others to from = refl
areas_equal [] (s ∷ ss) are others to from =
    let h = from s.low (head_has s ss s.low (omega arith, head_some s ss others)) in absurd (omega (arith, h.2))
areas_equal (r ∷ rs) [] are others to from =
    let h = to r.low (head_has r rs r.low (omega arith, head_some r rs are)) in absurd (omega (arith, h.2))
areas_equal (r ∷ rs) (s ∷ ss) are others to from =
    let one = low_le r s rs ss are others to from in
    let two = low_le s r ss rs others are from to in
    let low : r.low ≡ s.low = omega arith in
    let three = high_le r s rs ss are others to from low in
    let four = high_le s r ss rs others are from to (sym low) in
    let high : r.high ≡ s.high = omega arith in
    let same : r ≡ s = λ t. record { low = low t; high = high t } in
    let rest = areas_equal rs ss (tail_areas r rs are) (tail_areas s ss others)
    (tail_to r s rs ss are others to from high)
    (tail_to s r ss rs others are from to (sym high)) in
    λ t. same t ∷ rest t

pub areas_unique : (xs ys : List Range) → AreAreas xs → AreAreas ys → ((a : ℕ) → Has xs a ↔ Has ys a) → xs ≡ ys
areas_unique xs ys are others same = areas_equal xs ys are others (λ a. (same a).0) (λ a. (same a).1)
