-- The line programs that units name, in the order of their offsets.
use Rattle.std.proofs.Common.{◌≡◌, ℕ, zero, suc, ◌+◌, ◌<◌, ◌≤◌, List, length, get_or, refl, sym, ap, ◌∙◌, subst, arith, inl, inr}
use Rattle.std.proofs.Common.{◌++◌, ◌∷◌, [], false, Option, Some, None}
use Rattle.std.specs.List.{AllAdjacentBelow}
use Rattle.std.specs.List.Sorted.{IsNonDecreasingBy}
use Rattle.std.specs.Ordering.{MatchOrdering, is_lt, nat_cmp, ordering_then}
use Rattle.std.specs.Prelude.{AllPairs, Contains}
use Rattle.std.specs.declared.cmp.Ordering.{Ordering}
use Rattle.std.specs.declared.cmp.Ordering.TheVariants.{Less, Equal, Greater}
use Rattle.std.proofs.lemmas.Bool.{true≢false, cases_lt, cases_order}
use Rattle.std.proofs.lemmas.Cmp.{ranked}
use Rattle.std.proofs.lemmas.List.Elements.{All-push, Contains-append_left, Contains-append_right, Contains-push}
use Rattle.std.proofs.lemmas.List.Sorted.{IsNonDecreasingBy-from_all_adjacent}
use Rattle.dw_entries.proofs.Firsts.{same_some}
use Rattle.dw_entries.specs.declared.entries.Entries.{Entries}
use Rattle.dw_ranges.specs.EntryRanges.{head_in}
use Rattle.dw_addresses.specs.LinePrograms.{offset_named}
use Rattle.dw_addresses.specs.Reading.{AllNamed, IsOne, IsUpTo}
use Rattle.dw_addresses.specs.declared.named.Named.{Named}

up_to : (a b : Ordering) (s t : Named)
    → MatchOrdering a (t.at < s.at) (t.at ≡ s.at) (s.at < t.at)
    → MatchOrdering b (t.size < s.size) (t.size ≡ s.size) (s.size < t.size)
    → is_lt (ordering_then a b) ≡ false → IsUpTo s t
up_to Less b s t p q e = absurd (true≢false e)
up_to Greater b s t p q e = inl p
up_to Equal Less s t p q e = absurd (true≢false e)
up_to Equal Equal s t p q e = inr (sym p, omega (arith, q))
up_to Equal Greater s t p q e = inr (sym p, omega (arith, q))

-- what a sort by offset and size says of two programs
pub key_up_to : (s t : Named)
    → is_lt (ordering_then (nat_cmp t.at s.at) (nat_cmp t.size s.size)) ≡ false → IsUpTo s t
key_up_to s t e =
    up_to (nat_cmp t.at s.at) (nat_cmp t.size s.size) s t
    (ranked t.at s.at (nat_cmp t.at s.at) refl)
    (ranked t.size s.size (nat_cmp t.size s.size) refl) e

up_to_trans : (s t u : Named) → IsUpTo s t → IsUpTo t u → IsUpTo s u
up_to_trans s t u (inl p) (inl q) = inl (omega arith)
up_to_trans s t u (inl p) (inr q) = inl (omega (arith, q.0))
up_to_trans s t u (inr p) (inl q) = inl (omega (arith, p.0))
up_to_trans s t u (inr p) (inr q) = inr (p.0 ∙ q.0, omega (arith, p.1, q.1))

up_to_at : (s t : Named) → IsUpTo s t → s.at ≤ t.at
up_to_at s t (inl p) = omega arith
up_to_at s t (inr p) = omega (arith, p.0)

-- programs in order rise in offset
pub offsets_rise : (xs : List Named) → AllAdjacentBelow IsUpTo xs (length xs) → IsNonDecreasingBy (λ s. s.at) xs
offsets_rise xs sorted =
    IsNonDecreasingBy-from_all_adjacent (λ (s : Named). s.at) xs
    (λ k d in'. up_to_at (get_or xs k d) (get_or xs (k + 1) d) (sorted k d in'))

-- each is up to each later one
pub all_up_to : (xs : List Named) → AllAdjacentBelow IsUpTo xs (length xs) → AllPairs IsUpTo xs
all_up_to xs sorted i zero d lt in' = absurd (omega arith)
all_up_to xs sorted i (suc j) d lt in' =
    let here : IsUpTo (get_or xs j d) (get_or xs (suc j) d) =
    subst (λ n. IsUpTo (get_or xs j d) (get_or xs n d)) (omega arith) (sorted j d (omega arith)) in
    elim (cases_order i j) [
      | inl same ↦ subst (λ n. IsUpTo (get_or xs n d) (get_or xs (suc j) d)) (sym same) here
      | inr other ↦ elim other [
        | inl less ↦
            up_to_trans (get_or xs i d) (get_or xs j d) (get_or xs (suc j) d)
            (all_up_to xs sorted i j d less (omega arith)) here
        | inr more ↦ absurd (omega arith)
      ]
    ]

-- ---- one more unit

named_before : (xs ys : List Named) (entries : Entries) (n : ℕ) → AllNamed entries n xs
    → ((one : Named) → one.unit ≡ n → IsOne entries one → Contains ys one) → (one : Named) → one.unit < n + 1
    → IsOne entries one → Contains (xs ++ ys) one
named_before xs ys entries n all new one below is = elim (cases_lt one.unit n) [
  | inl lt ↦ Contains-append_left xs ys one (all.every one lt is)
  | inr ge ↦ Contains-append_right xs ys one (new one (omega (arith, below, ge)) is)
]

-- a unit that names a program
pub one_named : (xs : List Named) (entries : Entries) (n : ℕ) (new : Named) → AllNamed entries n xs → new.unit ≡ n
    → IsOne entries new → AllNamed entries (n + 1) (xs ++ new ∷ [])
one_named xs entries n new all of_unit is = record {
  each = All-push (IsOne entries) xs new all.each is;
  every = named_before xs (new ∷ []) entries n all (λ one at_n p.
      subst (Contains (new ∷ []))
      (same_named entries new one (of_unit ∙ sym at_n) is p) (Contains-push [] new));
} where
  alike : (s t : Named) → s.at ≡ t.at → s.size ≡ t.size → s.unit ≡ t.unit → s ≡ t
  alike s t p q r = λ i. record { at = p i; size = q i; unit = r i }

  same_named : (e : Entries) (s t : Named) → s.unit ≡ t.unit → IsOne e s → IsOne e t → s ≡ t
  same_named e s t unit p q =
      let off : offset_named e s.unit ≡ Some t.at = ap (offset_named e) unit ∙ q.offset in
      let at : s.at ≡ t.at = same_some (offset_named e s.unit) s.at t.at p.offset off in
      let size : s.size ≡ t.size =
      sym p.sized ∙ ap (λ (u : ℕ). (head_in e u).header.address_size) unit ∙ q.sized in
      alike s t at size unit

-- a unit that names none
pub none_named : (xs : List Named) (entries : Entries) (n : ℕ) → AllNamed entries n xs → offset_named entries n ≡ None
    → AllNamed entries (n + 1) xs
none_named xs entries n all none = record {
  each = all.each;
  every = λ one below is. elim (cases_lt one.unit n) [
    | inl lt ↦ all.every one lt is
    | inr ge ↦
        let same : one.unit ≡ n = omega (arith, below, ge) in
        absurd (no_offset (offset_named entries n) one.at
        (subst (λ (u : ℕ). offset_named entries u ≡ Some one.at) same is.offset) none)
  ];
} where
  no_offset : (o : Option ℕ) (at : ℕ) → o ≡ Some at → o ≡ None → ⊥
  no_offset o at p q = cc
