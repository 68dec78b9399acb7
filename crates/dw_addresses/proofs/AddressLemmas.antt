-- Areas of code, the reaches of sequences, and rows up to an address.
use Rattle.std.proofs.Common.{◌≡◌, ℕ, zero, suc, ◌+◌, ◌<◌, ◌≤◌, List, [], ◌∷◌, length, get_or, Bool, true, false, leb}
use Rattle.std.proofs.Common.{refl, sym, ap, subst, arith, inl, inr, Option, Some, None, ltb, max}
use Rattle.std.specs.Prelude.{All, if◌then◌else◌}
use Rattle.std.specs.List.{list_any, find, AllWithin}
use Rattle.std.specs.List.Sorted.{IsNonDecreasingBy, IsPartitionPoint}
use Rattle.std.proofs.lemmas.Bool.{and_from, and_parts, cases_lt, cases_order, both_ways, le-leb, leb-true, lt-leb}
use Rattle.std.proofs.lemmas.Bool.{false_from_ne_true, leb-false, lt-ltb, ltb-true}
use Rattle.std.proofs.lemmas.List.Recursion.{or_is}
use Rattle.dw_addresses.specs.Addresses.{AreAreas, encloses, row_up_to}
use Rattle.dw_addresses.specs.Index.{has, reaches_from}
use Rattle.dw_lines.specs.declared.row.Row.{Row}
use Rattle.dw_addresses.specs.declared.sequence.Sequence.{Sequence}

-- ---- how many have a key or a smaller one, by the test that is given to partition_point

pub point_up_to : {X : Type 0} (key : X → ℕ) (a : ℕ) (xs : List X) (n : ℕ)
    → IsPartitionPoint (λ x. leb (key x) a ≡ true) (λ x. leb (key x) a ≡ false) xs n
    → IsPartitionPoint (λ x. key x ≤ a) (λ x. a < key x) xs n
point_up_to key a xs n point =
    (λ k d low high. leb-true _ a (point.0 k d low high), λ k d low high. leb-false _ a (point.1 k d low high))

-- ---- areas of code

pub areas_rise : (code : List (ℕ × ℕ)) → AreAreas code → IsNonDecreasingBy (λ x. x.0) code
areas_rise code areas i j d le in' = elim (cases_order i j) [
  | inl same ↦ subst (λ n. (get_or code i d).0 ≤ (get_or code n d).0) same (omega arith)
  | inr other ↦ elim other [
    | inl lt ↦ omega (arith, areas.apart i j d lt in', areas.some i d (omega arith))
    | inr gt ↦ absurd (omega arith)
  ]
]

module _ (code : List (ℕ × ℕ)) (areas : AreAreas code) (low high : ℕ) (some : low < high) where
  abbrev Starts : ℕ → Type 0
  Starts n = IsPartitionPoint (λ x. x.0 ≤ low) (λ x. low < x.0) code n

  -- the last area that starts up to the first address decides
  pub area_decides : (m : ℕ) (d : ℕ × ℕ) → m < length code → Starts (m + 1)
      → leb high (get_or code m d).1 ≡ list_any (encloses low high) code
  area_decides m d in' point =
      or_is (list_any (encloses low high)) (encloses low high) refl (λ _ _. refl) code d (leb high (get_or code m d).1)
      (λ ends. (
        m,
        in',
        and_from (leb (get_or code m d).0 low) (leb high (get_or code m d).1)
            (le-leb (get_or code m d).0 low (point.0 m d (omega arith) (omega arith))) ends,
      ))
      (λ short i in_i. false_from_ne_true (encloses low high (get_or code i d)) (λ all.
      let (starts, ends) = and_parts (leb (get_or code i d).0 low) (leb high (get_or code i d).1) all in
      let low_i = leb-true (get_or code i d).0 low starts in
      let high_i = leb-true high (get_or code i d).1 ends in
      elim (cases_order i m) [
        | inl same ↦
            both_ways (leb high (get_or code m d).1) short (subst (λ n. leb high (get_or code n d).1 ≡ true) same ends)
        | inr other ↦ elim other [
          | inl lt ↦ omega (arith, areas.apart i m d lt in', point.0 m d (omega arith) (omega arith), high_i)
          | inr gt ↦ omega (arith, point.1 i d (omega arith) in_i, low_i)
        ]
      ]))

  pub no_area : Starts 0 → (d : ℕ × ℕ) → false ≡ list_any (encloses low high) code
  no_area point d =
      or_is (list_any (encloses low high)) (encloses low high) refl (λ _ _. refl) code d false
      (λ e. absurd (both_ways false refl e))
      (λ short i in_i. false_from_ne_true (encloses low high (get_or code i d)) (λ all.
      let (starts, ends) = and_parts (leb (get_or code i d).0 low) (leb high (get_or code i d).1) all in
      omega (arith, point.1 i d (omega arith) in_i, leb-true (get_or code i d).0 low starts)))

-- ---- rows up to an address

module _ (a : ℕ) where
  pub no_row_up_to : (rows : List Row) → AllWithin (λ r. a < r.address) rows 0 (length rows) → row_up_to a rows ≡ None
  no_row_up_to [] above = refl
  no_row_up_to (r ∷ rows) above =
      let high : a < r.address = above 0 r (omega arith) (omega arith) in
      rw (no_row_up_to rows (λ k d low in'. above (suc k) d (omega arith) (omega arith)), lt-leb r.address a high)
      refl

  pub last_row_up_to : (rows : List Row) (m : ℕ) (d : Row) → m < length rows
      → AllWithin (λ r. r.address ≤ a) rows 0 (m + 1) → AllWithin (λ r. a < r.address) rows (m + 1) (length rows)
      → row_up_to a rows ≡ Some (get_or rows m d)
  last_row_up_to [] m d in' below above = absurd (omega arith)
  last_row_up_to (r ∷ rows) zero d in' below above =
      let low : r.address ≤ a = below 0 r (omega arith) (omega arith) in
      rw (no_row_up_to rows (λ k e low in_k. above (suc k) e (omega arith) (omega arith)), le-leb r.address a low) refl
  last_row_up_to (r ∷ rows) (suc m) d in' below above =
      rw (last_row_up_to rows m d (omega arith) (λ k e low in_k. below (suc k) e (omega arith) (omega arith))
      (λ k e low in_k. above (suc k) e (omega arith) (omega arith)))
      refl

-- ---- the first sequence that has an address

module _ {A : Type 0} (test : A → Bool) where
  pub found_first : (xs : List A) (n : ℕ) (d : A) → n < length xs
      → ((k : ℕ) → k < n → test (get_or xs k d) ≡ false) → test (get_or xs n d) ≡ true
      → find test xs ≡ Some (get_or xs n d)
  found_first [] n d in' none here = absurd (omega arith)
  found_first (x ∷ xs) zero d in' none here = rw here refl
  found_first (x ∷ xs) (suc n) d in' none here =
      rw (none 0 (omega arith)) (found_first xs n d (omega arith) (λ k lt. none (suc k) (omega arith)) here)

  pub found_none : (xs : List A) (d : A) → ((k : ℕ) → k < length xs → test (get_or xs k d) ≡ false)
      → find test xs ≡ None
  found_none [] d none = refl
  found_none (x ∷ xs) d none = rw (none 0 (omega arith)) (found_none xs d (λ k lt. none (suc k) (omega arith)))

  some_same : (s x : A) → Some s ≡ Some x → s ≡ x
  some_same s x e = cc

  no_none : (s : A) → ◌≡◌ {A = Option A} (Some s) None → ⊥
  no_none s e = cc

  -- what holds of each element holds of one that is found
  module _ (P : A → Type 0) where
    found_or : (s x : A) (o : Option A) → P x → (Some s ≡ o → P s) → (b : Bool)
        → ◌≡◌ {A = Option A} (Some s) (if b then Some x else o) → P s
    found_or s x o here rest true e = subst P (sym (some_same s x e)) here
    found_or s x o here rest false e = rest e

    pub found_all : (xs : List A) (s : A) → Some s ≡ find test xs → All P xs → P s
    found_all [] s found all = absurd (no_none s found)
    found_all (x ∷ xs) s found all =
        found_or s x (find test xs) (all 0 x (omega arith))
        (λ e. found_all xs s e (λ k d in'. all (suc k) d (omega arith))) (test x) found

pub reaches_long : (m : ℕ) (xs : List Sequence) → length (reaches_from m xs) ≡ length xs
reaches_long m [] = refl
reaches_long m (x ∷ xs) = let rest = reaches_long (max m x.high) xs in omega arith

reach_above : (m : ℕ) (xs : List Sequence) (k d : ℕ) → k < length xs → m ≤ get_or (reaches_from m xs) k d
reach_above m [] k d in' = absurd (omega arith)
reach_above m (x ∷ xs) zero d in' = omega arith
reach_above m (x ∷ xs) (suc k) d in' = let rest = reach_above (max m x.high) xs k d (omega arith) in omega arith

reaches_up : (m : ℕ) (xs : List Sequence) (i j d : ℕ) → i ≤ j → j < length xs
    → get_or (reaches_from m xs) i d ≤ get_or (reaches_from m xs) j d
reaches_up m [] i j d le in' = absurd (omega arith)
reaches_up m (x ∷ xs) zero zero d le in' = omega arith
reaches_up m (x ∷ xs) zero (suc j) d le in' = reach_above (max m x.high) xs j d (omega arith)
reaches_up m (x ∷ xs) (suc i) zero d le in' = absurd (omega arith)
reaches_up m (x ∷ xs) (suc i) (suc j) d le in' = reaches_up (max m x.high) xs i j d (omega arith) (omega arith)

pub reaches_rise : (m : ℕ) (xs : List Sequence) → IsNonDecreasingBy (λ (x : ℕ). x) (reaches_from m xs)
reaches_rise m xs i j d le in' = reaches_up m xs i j d le (omega (arith, reaches_long m xs))

pub high_reached : (m : ℕ) (xs : List Sequence) (k d : ℕ) (e : Sequence) → k < length xs
    → (get_or xs k e).high ≤ get_or (reaches_from m xs) k d
high_reached m [] k d e in' = absurd (omega arith)
high_reached m (x ∷ xs) zero d e in' = omega arith
high_reached m (x ∷ xs) (suc k) d e in' = high_reached (max m x.high) xs k d e (omega arith)

-- the first reach above an address is the end of its sequence
pub first_above : (a m : ℕ) (xs : List Sequence) (n d : ℕ) (e : Sequence) → n < length xs → m ≤ a
    → ((k : ℕ) → k < n → get_or (reaches_from m xs) k d ≤ a) → a < get_or (reaches_from m xs) n d
    → a < (get_or xs n e).high
first_above a m [] n d e in' low below above = absurd (omega arith)
first_above a m (x ∷ xs) zero d e in' low below above = omega arith
first_above a m (x ∷ xs) (suc n) d e in' low below above =
    first_above a (max m x.high) xs n d e (omega arith) (below 0 (omega arith)) (λ k lt. below (suc k) (omega arith))
    above

ends_before : (a : ℕ) (s : Sequence) → s.high ≤ a → has a s ≡ false
ends_before a s low = false_from_ne_true (has a s) (λ both.
    let (starts, ends) = and_parts (leb s.low a) (ltb a s.high) both in
    omega (arith, ltb-true a s.high ends))

starts_after : (a : ℕ) (s : Sequence) → a < s.low → has a s ≡ false
starts_after a s high = false_from_ne_true (has a s) (λ both.
    let (starts, ends) = and_parts (leb s.low a) (ltb a s.high) both in
    omega (arith, leb-true s.low a starts))

module _ (a : ℕ) (xs : List Sequence) (reaches : List ℕ) (are : reaches ≡ reaches_from 0 xs) (n : ℕ) (e : Sequence)
    (point : IsPartitionPoint (λ x. x ≤ a) (λ x. a < x) reaches n) where
  below : (k : ℕ) → k < n → n ≤ length xs → get_or (reaches_from 0 xs) k 0 ≤ a
  below k lt in' = subst (λ (rs : List ℕ). get_or rs k 0 ≤ a) are (point.0 k 0 (omega arith) lt)

  none_before : (k : ℕ) → k < n → n ≤ length xs → has a (get_or xs k e) ≡ false
  none_before k lt in' =
      ends_before a (get_or xs k e)
      (omega (arith, high_reached 0 xs k 0 e (omega arith), below k lt in'))

  -- the first sequence whose reach is above an address is the first that has it, if it starts up to it
  pub reached_has : n < length xs → (get_or xs n e).low ≤ a → Some (get_or xs n e) ≡ find (has a) xs
  reached_has in' starts =
      let above : a < get_or (reaches_from 0 xs) n 0 = subst (λ (rs : List ℕ). a < get_or rs n 0) are
      (point.1 n 0 (omega arith) (omega (arith, reaches_long 0 xs, ap length are))) in
      let ends = first_above a 0 xs n 0 e in' (omega arith) (λ k lt. below k lt (omega arith)) above in
      sym (found_first (has a) xs n e in' (λ k lt. none_before k lt (omega arith))
      (and_from (leb (get_or xs n e).low a) (ltb a (get_or xs n e).high)
      (le-leb (get_or xs n e).low a starts) (lt-ltb a (get_or xs n e).high ends)))

  pub reached_none : IsNonDecreasingBy (λ s. s.low) xs → n ≤ length xs
      → (n < length xs → a < (get_or xs n e).low) → None ≡ find (has a) xs
  reached_none rise in' starts =
      sym (found_none (has a) xs e (λ k lt. elim (cases_lt k n) [
        | inl before ↦ none_before k before in'
        | inr after ↦
            starts_after a (get_or xs k e) (omega (arith, starts (omega arith), rise n k e after lt))
      ]))
