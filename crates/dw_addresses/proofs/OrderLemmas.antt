-- Sequences in the order of the rows, and in the order of their addresses.
use Rattle.std.proofs.Common.{◌≡◌, ℕ, zero, suc, ◌+◌, ◌<◌, ◌≤◌, List, [], ◌∷◌, length, get_or, Bool, true, false}
use Rattle.std.proofs.Common.{refl, sym, ap, subst, arith, inl, inr, Option, Some, None, ◌∙◌}
use Rattle.std.specs.Ordering.{MatchOrdering, is_lt, nat_cmp, ordering_then}
use Rattle.std.specs.declared.cmp.Ordering.{Ordering}
use Rattle.std.specs.declared.cmp.Ordering.TheVariants.{Less, Equal, Greater}
use Rattle.std.proofs.lemmas.Cmp.{ranked}
use Rattle.std.specs.Prelude.{All, AllPairs, Contains, IsPermutation, MatchOption, IfSome, if◌then◌else◌, nat_lt, map, option_map}
use Rattle.std.specs.List.{AllAdjacentBelow, find}
use Rattle.std.specs.List.Sorted.{IsNonDecreasingBy}
use Rattle.std.proofs.lemmas.Bool.{true≢false, both_ways, cases_lt, cases_order, ltb-true, ltb-false}
use Rattle.std.proofs.lemmas.List.{get_or_default}
use Rattle.std.proofs.lemmas.List.Elements.{All-cons, All-contains, All-nil}
use Rattle.std.proofs.lemmas.List.Sorted.{All-permutation, Contains-permutation, IsNonDecreasingBy-from_all_adjacent}
use Rattle.std.proofs.lemmas.List.Sorted.{IsPermutation-sym}
use Rattle.dw_addresses.specs.Addresses.{has_address, live_sequences, lower, sequence_with}
use Rattle.dw_addresses.specs.Index.{AreLive, IsSequence, IsUpTo, has, rows_of}
use Rattle.dw_lines.specs.declared.row.Row.{Row}
use Rattle.dw_addresses.specs.declared.sequence.Sequence.{Sequence}

-- ---- the order of keys

up_to : (a b : Ordering) (s t : Sequence)
    → MatchOrdering a (t.low < s.low) (t.low ≡ s.low) (s.low < t.low)
    → MatchOrdering b (t.first < s.first) (t.first ≡ s.first) (s.first < t.first)
    → is_lt (ordering_then a b) ≡ false → IsUpTo s t
up_to Less b s t p q e = absurd (true≢false e)
up_to Greater b s t p q e = inl p
up_to Equal Less s t p q e = absurd (true≢false e)
up_to Equal Equal s t p q e = inr (sym p, omega (arith, q))
up_to Equal Greater s t p q e = inr (sym p, omega (arith, q))

pub key_up_to : (s t : Sequence)
    → is_lt (ordering_then (nat_cmp t.low s.low) (nat_cmp t.first s.first)) ≡ false → IsUpTo s t
key_up_to s t e =
    up_to (nat_cmp t.low s.low) (nat_cmp t.first s.first) s t
    (ranked t.low s.low (nat_cmp t.low s.low) refl)
    (ranked t.first s.first (nat_cmp t.first s.first) refl) e

up_to_trans : (s t u : Sequence) → IsUpTo s t → IsUpTo t u → IsUpTo s u
up_to_trans s t u (inl p) (inl q) = inl (omega arith)
up_to_trans s t u (inl p) (inr q) = inl (omega (arith, q.0))
up_to_trans s t u (inr p) (inl q) = inl (omega (arith, p.0))
up_to_trans s t u (inr p) (inr q) = inr (p.0 ∙ q.0, omega (arith, p.1, q.1))

up_to_low : (s t : Sequence) → IsUpTo s t → s.low ≤ t.low
up_to_low s t (inl p) = omega arith
up_to_low s t (inr p) = omega (arith, p.0)

up_to_both : (s t : Sequence) → IsUpTo s t → IsUpTo t s → s.first ≡ t.first
up_to_both s t (inl p) (inl q) = absurd (omega arith)
up_to_both s t (inl p) (inr q) = absurd (omega (arith, q.0))
up_to_both s t (inr p) (inl q) = absurd (omega (arith, p.0))
up_to_both s t (inr p) (inr q) = omega (arith, p.1, q.1)

pub lows_rise : (xs : List Sequence) → AllAdjacentBelow IsUpTo xs (length xs) → IsNonDecreasingBy (λ s. s.low) xs
lows_rise xs sorted =
    IsNonDecreasingBy-from_all_adjacent (λ (s : Sequence). s.low) xs
    (λ k d in'. up_to_low (get_or xs k d) (get_or xs (k + 1) d) (sorted k d in'))

all_up_to : (xs : List Sequence) → AllAdjacentBelow IsUpTo xs (length xs) → AllPairs IsUpTo xs
all_up_to xs sorted i zero d lt in' = absurd (omega arith)
all_up_to xs sorted i (suc j) d lt in' =
    let here : IsUpTo (get_or xs j d) (get_or xs (suc j) d) =
    subst (λ n. IsUpTo (get_or xs j d) (get_or xs n d)) (omega arith) (sorted j d (omega arith)) in
    elim (cases_order i j) [
      | inl same ↦ subst (λ n. IsUpTo (get_or xs n d) (get_or xs (suc j) d)) (sym same) here
      | inr other ↦ elim other [
        | inl less ↦
            up_to_trans (get_or xs i d) (get_or xs j d) (get_or xs (suc j) d)
            (all_up_to xs sorted i j d less (omega arith)) here
        | inr more ↦ absurd (omega arith)
      ]
    ]

-- ---- the least sequence that has an address

abbrev Earlier : Sequence → Sequence → Type 0
Earlier s t = s.first < t.first

module _ (a : ℕ) where
  -- a sequence of some has an address, and is the least in order that does
  record IsLeast (xs : List Sequence) (s : Sequence) : Type 0 where
    among : Contains xs s
    has_it : has a s ≡ true
    least : All (λ t. has a t ≡ true → IsUpTo s t) xs

  abbrev None' : List Sequence → Type 0
  None' xs = All (λ t. has a t ≡ false) xs

  among_more : (x s : Sequence) (xs : List Sequence) → Contains xs s → Contains (x ∷ xs) s
  among_more x s xs c = (suc c.0, omega (arith, c.1), c.2)

  -- the first of sequences in order that has it
  find_is : (ys : List Sequence) → AllPairs IsUpTo ys → MatchOption (find (has a) ys) (None' ys) (IsLeast ys)
  find_is [] up = All-nil (λ t. has a t ≡ false)
  find_is (y ∷ ys) up =
      go (has a y) refl (find (has a) ys)
      (find_is ys (λ i j d lt in'. up (suc i) (suc j) d (omega arith) (omega arith)))
    where
      go : (b : Bool) → has a y ≡ b → (o : Option Sequence) → MatchOption o (None' ys) (IsLeast ys)
          → MatchOption (if b then Some y else o) (None' (y ∷ ys)) (IsLeast (y ∷ ys))
      go false e None none = All-cons (λ t. has a t ≡ false) y ys e none
      go false e (Some t) l = record {
        among = among_more y t ys l.among;
        has_it = l.has_it;
        least = All-cons (λ u. has a u ≡ true → IsUpTo t u) y ys (λ h. absurd (both_ways (has a y) e h)) l.least;
      }
      go true e o l = record {
        among = (0, omega arith, refl);
        has_it = e;
        least = All-cons (λ u. has a u ≡ true → IsUpTo y u) y ys (λ h. inr (refl, omega arith))
            (λ k d in' h. up 0 (suc k) d (omega arith) (omega arith));
      }

  -- the same of sequences in the order of their rows, as `sequence_with` has it
  sooner : Sequence → Option Sequence → Sequence
  sooner s None = s
  sooner s (Some t) = if nat_lt t.low s.low then t else s

  best : List Sequence → Option Sequence
  best [] = None
  best (s ∷ later) = if has a s then Some (sooner s (best later)) else best later

  best_is : (xs : List Sequence) → AllPairs Earlier xs → MatchOption (best xs) (None' xs) (IsLeast xs)
  unfolding best sooner
  best_is [] up = All-nil (λ t. has a t ≡ false)
  best_is (x ∷ xs) up =
      go (has a x) refl (best xs) (best_is xs (λ i j d lt in'. up (suc i) (suc j) d (omega arith) (omega arith)))
    where
      firsts : All (Earlier x) xs
      firsts = λ k d in'. up 0 (suc k) d (omega arith) (omega arith)

      pick : has a x ≡ true → (t : Sequence) → IsLeast xs t → (b : Bool) → nat_lt t.low x.low ≡ b
          → IsLeast (x ∷ xs) (if b then t else x)
      pick h t l true e = record {
        among = among_more x t xs l.among;
        has_it = l.has_it;
        least = All-cons (λ u. has a u ≡ true → IsUpTo t u) x xs (λ h. inl (ltb-true t.low x.low e)) l.least;
      }
      pick h t l false e = record {
        among = (0, omega arith, refl);
        has_it = h;
        least = All-cons (λ u. has a u ≡ true → IsUpTo x u) x xs (λ h. inr (refl, omega arith)) (λ k d in' h.
            let u = get_or xs k d in
            let low = up_to_low t u (l.least k d in' h) in
            let ge = ltb-false t.low x.low e in
            elim (cases_lt x.low u.low) [
              | inl lt ↦ inl lt
              | inr le ↦ inr (omega arith, omega (arith, firsts k d in'))
            ]);
      }

      go : (b : Bool) → has a x ≡ b → (o : Option Sequence) → MatchOption o (None' xs) (IsLeast xs)
          → MatchOption (if b then Some (sooner x o) else o) (None' (x ∷ xs)) (IsLeast (x ∷ xs))
      go false e None none = All-cons (λ t. has a t ≡ false) x xs e none
      go false e (Some t) l = record {
        among = among_more x t xs l.among;
        has_it = l.has_it;
        least = All-cons (λ u. has a u ≡ true → IsUpTo t u) x xs (λ h. absurd (both_ways (has a x) e h)) l.least;
      }
      go true e None none = record {
        among = (0, omega arith, refl);
        has_it = e;
        least = All-cons (λ u. has a u ≡ true → IsUpTo x u) x xs (λ h. inr (refl, omega arith))
            (λ k d in' h. absurd (both_ways (has a (get_or xs k d)) (none k d in') h));
      }
      go true e (Some t) l = pick e t l (nat_lt t.low x.low) refl

  best_all : (P : Sequence → Type 0) (xs : List Sequence) → All P xs → IfSome (best xs) P
  unfolding best sooner
  best_all P [] all = tt
  best_all P (x ∷ xs) all = go (has a x) (best xs) (best_all P xs (λ k d in'. all (suc k) d (omega arith)))
    where
      pick : (t : Sequence) → P t → (b : Bool) → P (if b then t else x)
      pick t p true = p
      pick t p false = all 0 x (omega arith)

      go : (b : Bool) (o : Option Sequence) → IfSome o P → IfSome (if b then Some (sooner x o) else o) P
      go false o p = p
      go true None p = all 0 x (omega arith)
      go true (Some t) p = pick t p (nat_lt t.low x.low)

  module _ (rows : List Row) where
    has_same : (s : Sequence) → IsSequence rows s → has_address a (rows_of rows s) ≡ has a s
    has_same s is = rw (is.low, is.high) refl

    lower_same : (x : Sequence) (o : Option Sequence) → IsSequence rows x → IfSome o (IsSequence rows)
        → lower (rows_of rows x) (option_map (rows_of rows) o) ≡ rows_of rows (sooner x o)
    unfolding sooner
    lower_same x None is all = refl
    lower_same x (Some t) is all = rw (is.low, all.low) (pick (nat_lt t.low x.low))
      where
        pick : (b : Bool)
            → ◌≡◌ {A = List Row} (if b then rows_of rows t else rows_of rows x) (rows_of rows (if b then t else x))
        pick true = refl
        pick false = refl

    best_same : (xs : List Sequence) → All (IsSequence rows) xs
        → sequence_with a (map (rows_of rows) xs) ≡ option_map (rows_of rows) (best xs)
    unfolding best
    best_same [] all = refl
    best_same (x ∷ xs) all =
        let is = all 0 x (omega arith) in
        let rest : All (IsSequence rows) xs = λ k d in'. all (suc k) d (omega arith) in
        rw (has_same x is, best_same xs rest, lower_same x (best xs) is (best_all (IsSequence rows) xs rest))
        (pick (has a x))
      where
        pick : (b : Bool)
            → ◌≡◌ {A = Option (List Row)}
            (if b then Some (rows_of rows (sooner x (best xs))) else option_map (rows_of rows) (best xs))
            (option_map (rows_of rows) (if b then Some (sooner x (best xs)) else best xs))
        pick true = refl
        pick false = refl

  one_least : (xs ys : List Sequence) → AllPairs Earlier xs → IsPermutation xs ys → (s t : Sequence)
      → IsLeast xs s → IsLeast ys t → s ≡ t
  one_least xs ys up moved s t ls lt =
      let t_in = Contains-permutation ys xs t (IsPermutation-sym xs ys moved) lt.among in
      let s_in = Contains-permutation xs ys s moved ls.among in
      let st = All-contains (λ u. has a u ≡ true → IsUpTo s u) xs t ls.least t_in lt.has_it in
      let ts = All-contains (λ u. has a u ≡ true → IsUpTo t u) ys s lt.least s_in ls.has_it in
      let same = up_to_both s t st ts in
      let i = ls.among.0 in
      let j = t_in.0 in
      let at_i : get_or xs i s ≡ s = ls.among.2 in
      let at_j : get_or xs j s ≡ t = get_or_default xs j s t t_in.1 ∙ t_in.2 in
      elim (cases_order i j) [
        | inl e ↦ sym at_i ∙ ap (λ k. get_or xs k s) e ∙ at_j
        | inr other ↦ elim other [
          | inl less ↦
              absurd (omega (
                arith,
                up i j s less t_in.1,
                ap (λ (u : Sequence). u.first) at_i,
                ap (λ (u : Sequence). u.first) at_j,
              ))
          | inr more ↦
              absurd (omega (
                arith,
                up j i s more ls.among.1,
                ap (λ (u : Sequence). u.first) at_i,
                ap (λ (u : Sequence). u.first) at_j,
              ))
        ]
      ]

  same_best : (xs ys : List Sequence) → AllPairs Earlier xs → IsPermutation xs ys → AllPairs IsUpTo ys
      → best xs ≡ find (has a) ys
  same_best xs ys up moved sorted = go (best xs) (best_is xs up) (find (has a) ys) (find_is ys sorted)
    where
      go : (o : Option Sequence) → MatchOption o (None' xs) (IsLeast xs) → (p : Option Sequence)
          → MatchOption p (None' ys) (IsLeast ys) → o ≡ p
      go None none None none' = refl
      go (Some s) ls (Some t) lt = ap Some (one_least xs ys up moved s t ls lt)
      go None none (Some t) lt =
          absurd (both_ways (has a t)
          (All-contains (λ u. has a u ≡ false) ys t (All-permutation (λ u. has a u ≡ false) xs ys moved none) lt.among)
          lt.has_it)
      go (Some s) ls None none =
          absurd (both_ways (has a s)
          (All-contains (λ u. has a u ≡ false) ys s none (Contains-permutation xs ys s moved ls.among)) ls.has_it)

  -- the sequence of an address is the first in order that has it
  pub found_same : (code : List (ℕ × ℕ)) (rows : List Row) (xs ys : List Sequence) → AreLive code rows xs
      → IsPermutation xs ys → AllAdjacentBelow IsUpTo ys (length ys)
      → sequence_with a (live_sequences code rows) ≡ option_map (rows_of rows) (find (has a) ys)
  found_same code rows xs ys live moved sorted =
      ap (sequence_with a) live.all
      ∙ best_same rows xs live.each
      ∙ ap (option_map (rows_of rows)) (same_best xs ys live.in_order moved (all_up_to ys sorted))
