-- Rows cut into sequences.
use Rattle.std.proofs.Common.{◌≡◌, ℕ, zero, suc, ◌+◌, ◌-◌, ◌<◌, ◌≤◌, List, [], ◌∷◌, ◌++◌, length, get_or, take, drop}
use Rattle.std.proofs.Common.{true, false, refl, sym, ap, ◌∙◌, subst, arith, inl, inr, map, append_assoc}
use Rattle.std.specs.Prelude.{All, AllPairs, filter, if◌then◌else◌}
use Rattle.std.proofs.lemmas.Bool.{cases_lt}
use Rattle.std.proofs.lemmas.List.{drop-drop, get_or-drop, get_or-take, length-drop, length-take-le, map-append, append-nil}
use Rattle.std.proofs.lemmas.List.{get_or_default}
use Rattle.std.proofs.lemmas.List.Kept.{AllPairs-cons}
use Rattle.std.proofs.lemmas.List.Elements.{All-push, All-weaker}
use Rattle.dw_addresses.specs.Addresses.{end_address, first_address, is_live, live_sequences, sequences_in}
use Rattle.dw_addresses.specs.Index.{AreLive, IsSequence, rows_of}
use Rattle.dw_lines.specs.declared.row.Row.{Row}
use Rattle.dw_addresses.specs.declared.sequence.Sequence.{Sequence}

-- ---- the first sequence of some rows

-- the first row that ends a sequence
pub cut_here : (rows : List Row) (m : ℕ) (d : Row) → m < length rows
    → ((k : ℕ) → k < m → (get_or rows k d).end_sequence ≡ false) → (get_or rows m d).end_sequence ≡ true
    → sequences_in rows ≡ take (suc m) rows ∷ sequences_in (drop (suc m) rows)
cut_here [] m d in' none ends = absurd (omega arith)
cut_here (r ∷ rows) zero d in' none ends = rw ends refl
cut_here (r ∷ rows) (suc m) d in' none ends =
    rw (none 0 (omega arith), cut_here rows m d (omega arith) (λ k lt. none (suc k) (omega arith)) ends) refl

-- no row ends a sequence
pub cut_none : (rows : List Row) (d : Row) → ((k : ℕ) → k < length rows → (get_or rows k d).end_sequence ≡ false)
    → sequences_in rows ≡ []
cut_none [] d none = refl
cut_none (r ∷ rows) d none =
    rw (none 0 (omega arith), cut_none rows d (λ k lt. none (suc k) (omega arith))) refl

first_is : (rows : List Row) (d : Row) → 0 < length rows → first_address rows ≡ (get_or rows 0 d).address
first_is [] d some = absurd (omega arith)
first_is (r ∷ rows) d some = refl

end_is : (rows : List Row) (m : ℕ) (d : Row) → length rows ≡ suc m → end_address rows ≡ (get_or rows m d).address
end_is [] m d long = absurd (omega arith)
end_is (r ∷ []) zero d long = refl
end_is (r ∷ []) (suc m) d long = absurd (omega arith)
end_is (r ∷ s ∷ rows) zero d long = absurd (omega arith)
end_is (r ∷ s ∷ rows) (suc m) d long = end_is (s ∷ rows) m d (omega arith)

-- ---- rows up to a place

abbrev no_row : Row
no_row = record {
  address = 0;
  file = 0;
  isa = 0;
  discriminator = 0;
  line = 0;
  column = 0;
  op_index = 0;
  is_stmt = false;
  basic_block = false;
  end_sequence = false;
  prologue_end = false;
  epilogue_begin = false;
}

-- the live sequences of the rows before a place, and the first row after them
pub record LiveBefore (code : List (ℕ × ℕ)) (rows : List Row) (found : List Sequence) (first n : ℕ) : Type 0 where
  pub up : first ≤ n
  pub within : n ≤ length rows
  pub none : (k : ℕ) (d : Row) → first ≤ k → k < n → (get_or rows k d).end_sequence ≡ false
  pub each : All (IsSequence rows) found
  pub in_order : AllPairs (λ s t. s.first < t.first) found
  pub before : All (λ s. s.first < first) found
  pub all : live_sequences code rows ≡ map (rows_of rows) found ++ live_sequences code (drop first rows)

abbrev Earlier : Sequence → Sequence → Type 0
Earlier s t = s.first < t.first

pairs_push : (xs : List Sequence) (s : Sequence) → AllPairs (λ s t. s.first < t.first) xs
    → All (λ t. t.first < s.first) xs
    → AllPairs (λ s t. s.first < t.first) (xs ++ s ∷ [])
pairs_push [] s pairs below = λ i j d lt in'. absurd (omega arith)
pairs_push (x ∷ xs) s pairs below =
    AllPairs-cons Earlier x (xs ++ s ∷ [])
    (All-push (Earlier x) xs s (λ k d lt. pairs 0 (suc k) d (omega arith) (omega arith)) (below 0 x (omega arith)))
    (pairs_push xs s (λ i j d lt in'. pairs (suc i) (suc j) d (omega arith) (omega arith))
    (λ k d lt. below (suc k) d (omega arith)))

module _ (code : List (ℕ × ℕ)) (rows : List Row) where
  module _ (found : List Sequence) (first n : ℕ) (live : LiveBefore code rows found first n) (in' : n < length rows)
    where
      pub open_more : (d : Row) → (get_or rows n d).end_sequence ≡ false → LiveBefore code rows found first (n + 1)
      open_more d goes_on = record {
        up = omega (arith, live.up);
        within = omega arith;
        none = λ k e low high. elim (cases_lt k n) [
          | inl lt ↦ live.none k e low lt
          | inr ge ↦
              let here : n ≡ k = omega arith in
              subst (λ m. (get_or rows m e).end_sequence ≡ false) here
              (subst (λ (r : Row). r.end_sequence ≡ false) (get_or_default rows n d e in') goes_on)
        ];
        each = live.each;
        in_order = live.in_order;
        before = live.before;
        all = live.all;
      }

      module _ (d : Row) (ends : (get_or rows n d).end_sequence ≡ true) where
        abbrev low : ℕ
        low = (get_or rows first d).address

        abbrev high : ℕ
        high = (get_or rows n d).address

        abbrev here : Sequence
        here = record { low = low; high = high; first = first; end = n }

        same_place : first + (n - first) ≡ n
        same_place = omega (arith, live.up)

        cut : sequences_in (drop first rows) ≡ rows_of rows here ∷ sequences_in (drop (n + 1) rows)
        cut =
            let left = drop first rows in
            let m = n - first in
            let long : m < length left = omega (arith, length-drop first rows, live.up) in
            let at_m = cut_here left m d long
            (λ k lt. rw get_or-drop (live.none (first + k) d (omega arith) (omega (arith, live.up))))
            (rw get_or-drop (subst (λ k. (get_or rows k d).end_sequence ≡ true) (sym same_place) ends)) in
            let size : suc m ≡ n + 1 - first = omega (arith, live.up) in
            let rest : drop (suc m) left ≡ drop (n + 1) rows =
            drop-drop (suc m) first rows ∙ ap (λ k. drop k rows) (omega (arith, live.up)) in
            at_m ∙ subst (λ k. take (suc m) left ∷ sequences_in (drop (suc m) left)
            ≡ take k left ∷ sequences_in (drop (n + 1) rows))
            size (ap (λ ys. take (suc m) left ∷ sequences_in ys) rest)

        long_here : length (rows_of rows here) ≡ suc (n - first)
        long_here =
            length-take-le (n + 1 - first) (drop first rows) (omega (arith, length-drop first rows, live.up))
            ∙ omega (arith, live.up)

        pub is_sequence : IsSequence rows here
        is_sequence = record {
          some = live.up;
          within = in';
          low = first_is (rows_of rows here) d (omega (arith, long_here))
              ∙ ap (λ (r : Row). r.address) (
              get_or-take (n + 1 - first) (drop first rows) 0 d (omega (arith, live.up))
              ∙ get_or-drop first rows 0 d ∙ ap (λ k. get_or rows k d) (omega arith));
          high = end_is (rows_of rows here) (n - first) d long_here
              ∙ ap (λ (r : Row). r.address) (
              get_or-take (n + 1 - first) (drop first rows) (n - first) d (omega (arith, live.up))
              ∙ get_or-drop first rows (n - first) d ∙ ap (λ k. get_or rows k d) same_place);
        }

        whole : live_sequences code rows ≡ map (rows_of rows) found
            ++ (if is_live code low high then rows_of rows here ∷ live_sequences code (drop (n + 1) rows)
            else live_sequences code (drop (n + 1) rows))
        whole =
            let f = rows_of rows here in
            let rest = live_sequences code (drop (n + 1) rows) in
            let same : is_live code (first_address f) (end_address f) ≡ is_live code low high =
            ap (λ x. is_live code x (end_address f)) is_sequence.low ∙ ap (is_live code low) is_sequence.high in
            live.all
            ∙ ap (λ ys. map (rows_of rows) found ++ ys) (
            ap (filter (λ s. is_live code (first_address s) (end_address s))) cut
            ∙ ap (λ b. if b then f ∷ rest else rest) same)

        pub dead_more : is_live code low high ≡ false → LiveBefore code rows found (n + 1) (n + 1)
        dead_more dead = record {
          up = omega arith;
          within = omega arith;
          none = λ k e low high. absurd (omega arith);
          each = live.each;
          in_order = live.in_order;
          before = All-weaker (λ s. s.first < first) (λ s. s.first < n + 1) (λ s lt. omega (arith, lt, live.up)) found
              live.before;
          all = whole ∙ rw dead refl;
        }

        pub live_more : is_live code low high ≡ true → LiveBefore code rows (found ++ here ∷ []) (n + 1) (n + 1)
        live_more alive = record {
          up = omega arith;
          within = omega arith;
          none = λ k e low high. absurd (omega arith);
          each = All-push (IsSequence rows) found here live.each is_sequence;
          in_order = pairs_push found here live.in_order live.before;
          before = All-push (λ s. s.first < n + 1) found here (All-weaker (λ s. s.first < first) (λ s. s.first < n + 1)
              (λ s lt. omega (arith, lt, live.up)) found live.before) (omega (arith, live.up));
          all = whole ∙ rw (alive, map-append, append_assoc) refl;
        }

  pub all_before : (found : List Sequence) (first n : ℕ) → LiveBefore code rows found first n → length rows ≤ n
      → AreLive code rows found
  all_before found first n live end = record {
    each = live.each;
    in_order = live.in_order;
    all = live.all
        ∙ ap (λ ys. map (rows_of rows) found ++ ys)
        (ap (filter (λ s. is_live code (first_address s) (end_address s))) (cut_none (drop first rows) no_row
        (λ k lt. rw get_or-drop (live.none (first + k) no_row (omega arith) (omega (arith, length-drop first rows))))))
        ∙ append-nil (map (rows_of rows) found);
  }
