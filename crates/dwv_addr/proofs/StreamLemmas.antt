-- The lines that end in a text, and what follows them.
use Rattle.std.proofs.Common.{◌≡◌, ℕ, suc, ◌+◌, ◌-◌, ◌<◌, ◌≤◌, ◌==◌, Bool, true, false, List, [], ◌∷◌, ◌++◌, length, map, slice_index, take, drop, refl, sym, ap, ◌∙◌, append_assoc, subst, arith}
use Rattle.std.proofs.lemmas.Bool.{eqb-true}
use Rattle.std.proofs.lemmas.List.{append-nil, append_cancel_left, drop_more, get_or-drop, length-drop, map-append, take-append-drop, take_more, take_rest}
use Rattle.std.proofs.Math.Seq.{take-append_seam}
use Rattle.dwv_addr.specs.Addresses.{HasStarted, address_in, asked_by, asked_so_far, ended_by, ended_lines, led_by, lines_of}
use Rattle.dwv_addr.proofs.AddressLemmas.{not_true}

not_none : {X : Type 0} (x : X) (xs : List X) → x ∷ xs ≡ [] → ⊥
not_none x xs is = let none = ap length is in omega (arith, none)

-- no line ends in a text without a line feed
pub none_ends : (text : List ℕ)
    → ((k : ℕ) → 0 ≤ k → k < length text → (slice_index text k == 10) ≡ true → ⊥) → ended_lines text ≡ []
none_ends [] none = refl
none_ends (b ∷ text) none =
    let plain : (b == 10) ≡ false = not_true _ (none 0 (omega arith) (omega arith)) in
    let more = none_ends text (λ k low high. none (suc k) (omega arith) (omega (arith, high))) in
    rw plain (ap (ended_by b) more)

ended_by_none : (b : ℕ) (lines : List (List ℕ)) → ended_by b lines ≡ [] → lines ≡ []
ended_by_none b [] is = refl
ended_by_none b (line ∷ lines) is = absurd (not_none (b ∷ line) lines is)

-- nor in two texts after one another
pub none_ends_after : (text more : List ℕ) → ended_lines text ≡ [] → ended_lines more ≡ []
    → ended_lines (text ++ more) ≡ []
none_ends_after [] more none also = also
none_ends_after (b ∷ text) more none also = go (b == 10) refl (λ rest. none_ends_after text more rest also)
  where
    go : (is : Bool) → (b == 10) ≡ is → (ended_lines text ≡ [] → ended_lines (text ++ more) ≡ [])
        → ended_lines (b ∷ (text ++ more)) ≡ []
    go true is after =
        let none_here : [] ∷ ended_lines text ≡ [] = rw is at none in absurd (not_none [] (ended_lines text) none_here)
    go false is after =
        let none_here : ended_by b (ended_lines text) ≡ [] = rw is at none in
        rw is (ap (ended_by b) (after (ended_by_none b (ended_lines text) none_here)))

-- the lines of a text with a line feed in it, whatever follows that
abbrev Cut : List ℕ → Type 0
Cut xs = (line : List ℕ) × (lines : List (List ℕ))
    × ((ys : List ℕ) → lines_of (xs ++ 10 ∷ ys) ≡ line ∷ (lines ++ lines_of ys))
    × ((ys : List ℕ) → ended_lines (xs ++ 10 ∷ ys) ≡ line ∷ (lines ++ ended_lines ys))

cut_at : (xs : List ℕ) → Cut xs
cut_at [] = ([], [], λ ys. refl, λ ys. refl)
cut_at (b ∷ xs) = go (b == 10) refl (cut_at xs)
  where
    go : (is : Bool) → (b == 10) ≡ is → Cut xs → Cut (b ∷ xs)
    go true is (line, lines, all, ended) =
        ([], line ∷ lines, λ ys. rw is (ap (λ ls. [] ∷ ls) (all ys)), λ ys. rw is (ap (λ ls. [] ∷ ls) (ended ys)))
    go false is (line, lines, all, ended) =
        (b ∷ line, lines, λ ys. rw is (ap (led_by b) (all ys)), λ ys. rw is (ap (ended_by b) (ended ys)))

-- a piece whose last line feed is known, after the start of a line
pub piece_cut : (text piece : List ℕ) (at : ℕ) → at < length piece → (slice_index piece at == 10) ≡ true
    → ended_lines (drop (at + 1) piece) ≡ []
    → (ended_lines (text ++ piece) ≡ lines_of (text ++ take (at + 1) piece))
    × HasStarted (text ++ piece) (drop (at + 1) piece)
    × (ended_lines (text ++ piece) ≡ [] → ⊥)
piece_cut text piece at within here none =
    let rest = drop (at + 1) piece in
    let xs = text ++ take at piece in
    let (line, lines, all, ended) = cut_at xs in
    let feed = eqb-true (slice_index piece at) 10 here in
    let parts : piece ≡ take at piece ++ 10 ∷ rest =
    sym (take-append-drop at piece)
    ∙ ap (λ u. take at piece ++ u) (drop_more piece at 0 within ∙ ap (λ b. b ∷ rest) feed) in
    let whole : text ++ piece ≡ xs ++ 10 ∷ rest =
    ap (λ u. text ++ u) parts ∙ sym (append_assoc text (take at piece) (10 ∷ rest)) in
    let front : text ++ take (at + 1) piece ≡ xs ++ 10 ∷ [] =
    ap (λ u. text ++ u) (take_more piece at 0 within ∙ ap (λ b. take at piece ++ b ∷ []) feed)
    ∙ sym (append_assoc text (take at piece) (10 ∷ [])) in
    let is_ended : ended_lines (text ++ piece) ≡ line ∷ lines =
    ap ended_lines whole ∙ ended rest ∙ ap (λ u. line ∷ (lines ++ u)) none ∙ ap (λ u. line ∷ u) (append-nil lines) in
    let is_front : lines_of (text ++ take (at + 1) piece) ≡ line ∷ lines =
    ap lines_of front ∙ all [] ∙ ap (λ u. line ∷ u) (append-nil lines) in
    let follow = λ (more : List ℕ). ap (λ u. u ++ more) whole ∙ append_assoc xs (10 ∷ rest) more in (
      is_ended ∙ sym is_front,
      record {
        lines = λ more. ap lines_of (follow more) ∙ all (rest ++ more)
            ∙ ap (λ u. u ++ lines_of (rest ++ more)) (sym is_ended);
        ended = λ more. ap ended_lines (follow more) ∙ ended (rest ++ more)
            ∙ ap (λ u. u ++ ended_lines (rest ++ more)) (sym is_ended);
      },
      λ is. not_none line lines (sym is_ended ∙ is),
    )

-- no line ends after the last line feed
none_after : (piece : List ℕ) (at : ℕ)
    → ((k : ℕ) → at + 1 ≤ k → k < length piece → (slice_index piece k == 10) ≡ true → ⊥)
    → ended_lines (drop (at + 1) piece) ≡ []
none_after piece at after =
    none_ends (drop (at + 1) piece) (λ k low high is.
    let size = length-drop (at + 1) piece in
    after (at + 1 + k) (omega arith) (omega (arith, high, size))
    (subst (λ b. (b == 10) ≡ true) (get_or-drop (at + 1) piece k 0) is))

-- the same where the last line feed was found
pub piece_found : (text piece lines fresh next : List ℕ) (at : ℕ) → at < length piece
    → ((k : ℕ) → at + 1 ≤ k → k < length piece → (slice_index piece k == 10) ≡ true → ⊥)
    → (slice_index piece at == 10) ≡ true → lines ≡ text ++ take (at + 1) piece
    → fresh ≡ [] → next ≡ fresh ++ take (length piece - (at + 1)) (drop (at + 1) piece)
    → (asked_by lines ≡ asked_so_far (text ++ piece)) × HasStarted (text ++ piece) next
    × (ended_lines (text ++ piece) ≡ [] → ⊥)
piece_found text piece lines fresh next at within after here is_lines none is_next =
    let (ended, has, some) = piece_cut text piece at within here (none_after piece at after) in
    let rest = take (length piece - (at + 1)) (drop (at + 1) piece) in
    let is_rest = is_next ∙ ap (λ u. u ++ rest) none ∙ take_rest piece (at + 1) in (
      ap asked_by is_lines ∙ ap (map address_in) (sym ended),
      subst (HasStarted (text ++ piece)) (sym is_rest) has,
      some,
    )

-- a text in which no line ends
pub started_whole : (text : List ℕ) → ended_lines text ≡ [] → HasStarted text text
started_whole text none = record {
  lines = λ more. ap (λ u. u ++ lines_of (text ++ more)) (sym none);
  ended = λ more. ap (λ u. u ++ ended_lines (text ++ more)) (sym none);
}

-- a piece more
pub started_more : (text started piece next : List ℕ) → HasStarted text started
    → HasStarted (started ++ piece) next → HasStarted (text ++ piece) next
started_more text started piece next first second =
    let before = ended_lines text in
    let so_far = first.ended piece in record {
      lines = λ more. ap lines_of (append_assoc text piece more) ∙ first.lines (piece ++ more)
          ∙ ap (λ u. before ++ lines_of u) (sym (append_assoc started piece more))
          ∙ ap (λ u. before ++ u) (second.lines more)
          ∙ sym (append_assoc before (ended_lines (started ++ piece)) (lines_of (next ++ more)))
          ∙ ap (λ u. u ++ lines_of (next ++ more)) (sym so_far);
      ended = λ more. ap ended_lines (append_assoc text piece more) ∙ first.ended (piece ++ more)
          ∙ ap (λ u. before ++ ended_lines u) (sym (append_assoc started piece more))
          ∙ ap (λ u. before ++ u) (second.ended more)
          ∙ sym (append_assoc before (ended_lines (started ++ piece)) (ended_lines (next ++ more)))
          ∙ ap (λ u. u ++ ended_lines (next ++ more)) (sym so_far);
    }

-- no line ends in the start of one
pub none_in_started : (text started : List ℕ) → HasStarted text started → ended_lines started ≡ []
none_in_started text started has =
    let before = ended_lines text in
    append_cancel_left before (ended_lines started) []
    (ap (λ u. before ++ ended_lines u) (sym (append-nil started)) ∙ sym (has.ended [])
    ∙ ap ended_lines (append-nil text) ∙ sym (append-nil before))

-- no line ends in a text and a piece if none ends in either
pub none_in_both : (text started piece : List ℕ) → HasStarted text started → ended_lines (text ++ piece) ≡ []
    → (ended_lines text ≡ []) × (ended_lines (started ++ piece) ≡ [])
none_in_both text started piece has none =
    both (ended_lines text) (ended_lines (started ++ piece)) (sym (has.ended piece) ∙ none)
  where
    both : (xs ys : List (List ℕ)) → xs ++ ys ≡ [] → (xs ≡ []) × (ys ≡ [])
    both [] ys is = (refl, is)
    both (x ∷ xs) ys is = absurd (not_none x (xs ++ ys) is)

-- the addresses of the lines that end in a text and a piece
pub asked_more : (text started piece : List ℕ) → HasStarted text started
    → asked_so_far (text ++ piece) ≡ asked_so_far text ++ asked_so_far (started ++ piece)
asked_more text started piece has =
    ap (map address_in) (has.ended piece)
    ∙ map-append address_in (ended_lines text) (ended_lines (started ++ piece))

-- the addresses of all lines of a text
pub asked_whole : (text started : List ℕ) → HasStarted text started
    → asked_by text ≡ asked_so_far text ++ asked_by started
asked_whole text started has =
    ap asked_by (sym (append-nil text)) ∙ ap (map address_in) (has.lines [])
    ∙ map-append address_in (ended_lines text) (lines_of (started ++ []))
    ∙ ap (λ u. asked_so_far text ++ asked_by u) (append-nil started)

led_front : (b : ℕ) (ended more : List (List ℕ))
    → (others : List (List ℕ)) × (led_by b (ended ++ more) ≡ ended_by b ended ++ others)
led_front b [] more = (led_by b more, refl)
led_front b (line ∷ lines) more = (more, refl)

ended_first : (text rest : List ℕ)
    → (others : List (List ℕ)) × (lines_of (text ++ rest) ≡ ended_lines text ++ others)
ended_first [] rest = (lines_of rest, refl)
ended_first (b ∷ text) rest = go (b == 10) refl (ended_first text rest)
  where
    go : (is : Bool) → (b == 10) ≡ is
        → (others : List (List ℕ)) × (lines_of (text ++ rest) ≡ ended_lines text ++ others)
        → (others : List (List ℕ)) × (lines_of (b ∷ (text ++ rest)) ≡ ended_lines (b ∷ text) ++ others)
    go true is (others, same) = (others, rw is (ap (λ ls. [] ∷ ls) same))
    go false is (others, same) =
        let (more, led) = led_front b (ended_lines text) others in (more, rw is (ap (led_by b) same ∙ led))

-- the lines that end in a prefix are the first lines
pub asked_first : (text rest : List ℕ)
    → take (length (asked_so_far text)) (asked_by (text ++ rest)) ≡ asked_so_far text
asked_first text rest =
    let (others, same) = ended_first text rest in
    ap (take (length (asked_so_far text)))
    (ap (map address_in) same ∙ map-append address_in (ended_lines text) others)
    ∙ take-append_seam (asked_so_far text) (map address_in others)
