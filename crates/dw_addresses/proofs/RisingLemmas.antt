-- The rows of a sequence are in the order of their addresses.
use Rattle.std.proofs.Common.{◌≡◌, ℕ, zero, suc, ◌+◌, ◌<◌, ◌≤◌, List, [], ◌∷◌, length, get_or, Bool, true, false}
use Rattle.std.proofs.Common.{Option, Some, None, refl, ap, subst, arith}
use Rattle.std.specs.Prelude.{All, if◌then◌else◌, map, unwrap_or}
use Rattle.std.specs.List.Sorted.{IsNonDecreasingBy}
use Rattle.std.proofs.lemmas.List.Elements.{All-cons, All-filter, All-head, All-nil, All-tail}
use Rattle.std.proofs.lemmas.List.Sorted.{IsNonDecreasingBy-from_all_adjacent}
use Rattle.dw_addresses.specs.Addresses.{before_first, end_address, first_address, is_live, sequences_in}
use Rattle.dw_addresses.specs.Index.{AreLive, rows_of}
use Rattle.dw_lines.specs.Machine.{last_after}
use Rattle.dw_lines.specs.Sequences.{Ascend}
use Rattle.dw_lines.specs.declared.row.Row.{Row}
use Rattle.dw_addresses.specs.declared.sequence.Sequence.{Sequence}

-- rows in order, from this address on
abbrev Rises : ℕ → List Row → Type 0
Rises m [] = Unit {0}
Rises m (r ∷ rows) = (m ≤ r.address) × Rises r.address rows

-- sequences whose rows are in order, of the first one from this address on
abbrev AllRise : ℕ → List (List Row) → Type 0
AllRise m [] = Unit {0}
AllRise m (s ∷ later) = Rises m s × AllRise 0 later

module _ (r : Row) (m : ℕ) (low : m ≤ r.address) where
  with_first : (ss : List (List Row)) → AllRise r.address ss → AllRise m (before_first r ss)
  with_first [] h = tt
  with_first (s ∷ later) h = ((low, h.0), h.1)

  one_more : (rows : List Row) → ((l : Option ℕ) → Ascend l rows → AllRise (unwrap_or l 0) (sequences_in rows))
      → Ascend (last_after r) rows → (b : Bool) → r.end_sequence ≡ b
      → AllRise m (if b then (r ∷ []) ∷ sequences_in rows else before_first r (sequences_in rows))
  one_more rows rest up true e =
      let after : last_after r ≡ None = ap (λ b. if b then None else Some r.address) e in
      ((low, tt), rest None (subst (λ (l : Option ℕ). Ascend l rows) after up))
  one_more rows rest up false e =
      let after : last_after r ≡ Some r.address = ap (λ b. if b then None else Some r.address) e in
      with_first (sequences_in rows) (rest (Some r.address) (subst (λ (l : Option ℕ). Ascend l rows) after up))

sequences_rise : (rows : List Row) (last : Option ℕ) → Ascend last rows
    → AllRise (unwrap_or last 0) (sequences_in rows)
sequences_rise [] last up = tt
sequences_rise (r ∷ rows) last up =
    one_more r (unwrap_or last 0) up.0 rows (λ l h. sequences_rise rows l h) up.1 r.end_sequence refl

abbrev InOrder : List Row → Type 0
InOrder rows = IsNonDecreasingBy (λ r. r.address) rows

next_up : (m : ℕ) (rows : List Row) → Rises m rows → (k : ℕ) (d : Row) → suc k < length rows
    → (get_or rows k d).address ≤ (get_or rows (suc k) d).address
next_up m [] h k d in' = absurd (omega arith)
next_up m (r ∷ []) h k d in' = absurd (omega arith)
next_up m (r ∷ s ∷ rows) h zero d in' = h.1.0
next_up m (r ∷ s ∷ rows) h (suc k) d in' = next_up r.address (s ∷ rows) h.1 k d (omega arith)

in_order : (m : ℕ) (rows : List Row) → Rises m rows → InOrder rows
in_order m rows h =
    IsNonDecreasingBy-from_all_adjacent (λ (r : Row). r.address) rows
    (λ k d in'. let one : suc k ≡ k + 1 = omega arith in
    subst (λ n. (get_or rows k d).address ≤ (get_or rows n d).address) one (next_up m rows h k d (omega arith)))

all_in_order : (m : ℕ) (ss : List (List Row)) → AllRise m ss → All InOrder ss
all_in_order m [] h = All-nil InOrder
all_in_order m (s ∷ later) h = All-cons InOrder s later (in_order m s h.0) (all_in_order 0 later h.1)

unmapped : (f : Sequence → List Row) (xs : List Sequence) → All InOrder (map f xs) → All (λ s. InOrder (f s)) xs
unmapped f [] h = All-nil (λ s. InOrder (f s))
unmapped f (x ∷ xs) h =
    All-cons (λ s. InOrder (f s)) x xs (All-head InOrder (f x) (map f xs) h)
    (unmapped f xs (All-tail InOrder (f x) (map f xs) h))

pub live_in_order : (code : List (ℕ × ℕ)) (rows : List Row) (found : List Sequence) → AreLive code rows found
    → Ascend None rows → All (λ s. IsNonDecreasingBy (λ r. r.address) (rows_of rows s)) found
live_in_order code rows found live up =
    unmapped (rows_of rows) found (subst (All InOrder) live.all
    (All-filter (λ s. is_live code (first_address s) (end_address s)) InOrder (sequences_in rows)
    (all_in_order 0 (sequences_in rows) (sequences_rise rows None up))))
