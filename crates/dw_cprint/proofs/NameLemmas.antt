-- The words of a base type's name, and its text.
use Rattle.std.proofs.Common.{rules, ◌≡◌, ℕ, zero, suc, ◌+◌, ◌*◌, ◌<◌, ◌≤◌, Bool, true, false, List, [], ◌∷◌, ◌++◌, Option, Some, None, refl, ◌∙◌, ap, subst, length, take, drop, append-nil, arith, ◌-◌, inl, inr}
use Rattle.std.specs.Prelude.{◌==◌, ◌&&◌, ◌-◌, count_by, position, bytes_eq, is_some, if◌then◌else◌, filter}
use Rattle.std.proofs.lemmas.Bool.{cases_Bool, cond_both}
use Rattle.std.specs.List.{find, list_any, slice_split, position_or_len, join_with_byte}
use Rattle.std.proofs.lemmas.Bool.Decides.{nat_tests}
use Rattle.std.proofs.lemmas.Option.{cond_some}
use Rattle.std.proofs.lemmas.List.{length-append}
use Rattle.std.proofs.lemmas.Slice.Eq.{bytes_eq-Decides}
use Rattle.std.proofs.lemmas.List.Splits.{slice_split_first, slice_split-cons_no, length-slice_split, join_with_byte-slice_split}
use Rattle.dw_cprint.specs.Declarations.{parts_of, word_of, words_of}
use Rattle.dw_cprint.specs.Terms.{TypeWord}
use Rattle.dw_cprint.specs.Tokens.{type_word_spelling, type_words, text_of}
use Rattle.dw_cprint.specs.Writing.{basic}
use Rattle.dw_cprint.proofs.OptionLemmas.{both_hold}

-- a text is one of these if it is one of those whose length passes a test that its own length passes
pub by_length : (p : ℕ → Bool) (word : List ℕ) (ks : List (List ℕ)) → p (length word) ≡ true
    → list_any (bytes_eq word) ks ≡ list_any (bytes_eq word) (filter (λ k. p (length k)) ks)
by_length p word [] is = refl
by_length p word (k ∷ ks) is =
    let rest = by_length p word ks is in
    let kept = filter (λ w. p (length w)) ks in
    elim (cases_Bool (bytes_eq word k)) [
      | inl e ↦
          let same : word ≡ k = search (rules, bytes_eq-Decides) in
          let there : p (length k) ≡ true = rw same at is in
          rw (there, e) refl
      | inr e ↦ rw e (cond_both (p (length k)) (k ∷ kept) kept
          (λ (ws : List (List ℕ)). list_any (bytes_eq word) ks ≡ list_any (bytes_eq word) ws) (λ t. rw e rest)
          (λ f. rest))
    ]

module _ {X : Type 0} (p : X → Bool) where
  split-whole : (xs : List X) → length xs ≤ position_or_len p xs → slice_split p xs ≡ xs ∷ []
  split-whole [] h = refl
  split-whole (x ∷ xs) h = search (rules, slice_split-cons_no, (split-whole xs))

  pub split-none : (xs : List X) → position p xs ≡ None → slice_split p xs ≡ xs ∷ []
  split-none xs e = search (rules, split-whole, nat_tests)

  pub split-some : (xs : List X) (d : X) (end : ℕ) → position p xs ≡ Some end
      → (end < length xs) × (slice_split p xs ≡ take end xs ∷ slice_split p (drop (end + 1) xs))
  split-some xs d end e = search (rules, cond_some, nat_tests, slice_split_first)

-- a name has a part, so no words are not enough
pub words-none : (name : List ℕ) → false ≡ is_some (words_of 0 (parts_of name))
words-none name = by_parts (parts_of name) (length-slice_split (λ (b : ℕ). b == 32) name)
  where
    by_parts : (parts : List (List ℕ)) → length parts ≡ count_by (λ (b : ℕ). b == 32) name + 1
        → false ≡ is_some (words_of 0 parts)
    by_parts [] e = absurd (omega arith)
    by_parts (part ∷ parts) e = refl

first-word : (most : ℕ) (part : List ℕ) (parts : List (List ℕ))
    → is_some (words_of (suc most) (part ∷ parts)) ≡ is_some (word_of part) && is_some (words_of most parts)
first-word most part parts = search (rules)

-- a name without spaces is one word
pub words-whole : (most : ℕ) (name : List ℕ) → (most ≡ 0 → ⊥) → position (λ (b : ℕ). b == 32) name ≡ None
    → is_some (words_of most (parts_of name)) ≡ is_some (word_of name)
words-whole zero name some none = absurd (some refl)
words-whole (suc most) name some none = search (rules, split-none, first-word)

-- one with a space is a word and the words behind the space
pub words-split : (most : ℕ) (name : List ℕ) (end : ℕ) → (most ≡ 0 → ⊥) → position (λ (b : ℕ). b == 32) name ≡ Some end
    → is_some (words_of most (parts_of name))
    ≡ is_some (word_of (take end name)) && is_some (words_of (most - 1) (parts_of (drop (end + 1) name)))
words-split zero name end some at = absurd (some refl)
words-split (suc most) name end some at = search (rules, split-some, first-word)

-- ---- the text of the words is the name

-- one row of the words: this word, or one of the others
one-word : (part name : List ℕ) (word w : TypeWord) (others : Option TypeWord) → type_word_spelling word ≡ name
    → (others ≡ Some w → type_word_spelling w ≡ part)
    → (if bytes_eq part name then Some word else others) ≡ Some w → type_word_spelling w ≡ part
one-word part name word w others is otherwise e = search (rules, bytes_eq-Decides)

spelled : (part : List ℕ) (words : List TypeWord) (w : TypeWord)
    → find (λ (word : TypeWord). bytes_eq part (type_word_spelling word)) words ≡ Some w → type_word_spelling w ≡ part
spelled part [] w e = absurd (cc)
spelled part (x ∷ words) w e =
    one-word part (type_word_spelling x) x w _ refl (λ others. spelled part words w others) e

-- one is found, if one passes the test
pub some-found : {X : Type 0} (p : X → Bool) (xs : List X) → is_some (find p xs) ≡ list_any p xs
some-found p [] = refl
some-found p (x ∷ xs) = search (rules, (some-found p xs))

-- one word before others, of which there are as many as parts
word-before : (w : TypeWord) (us : List TypeWord) (part : List ℕ) (parts : List (List ℕ)) → type_word_spelling w ≡ part
    → length us ≡ length parts → text_of (basic us) ≡ join_with_byte 32 parts
    → text_of (basic (w ∷ us)) ≡ join_with_byte 32 (part ∷ parts)
word-before w [] part [] is long h = append-nil (type_word_spelling w) ∙ is
word-before w [] part (another ∷ parts) is long h = absurd (omega arith)
word-before w (u ∷ us) part [] is long h = absurd (omega arith)
word-before w (u ∷ us) part (another ∷ parts) is long h =
    ap (λ (t : List ℕ). type_word_spelling w ++ 32 ∷ t) h
    ∙ ap (λ (t : List ℕ). t ++ 32 ∷ join_with_byte 32 (another ∷ parts)) is

-- words are no more than there may be, and their text is that of the parts
record AreWords (most : ℕ) (parts : List (List ℕ)) (ws : List TypeWord) : Type 0 where
  few : length ws ≤ most
  as_many : length ws ≡ length parts
  text : text_of (basic ws) ≡ join_with_byte 32 parts

are-words : (most : ℕ) (parts : List (List ℕ)) (ws : List TypeWord) → words_of most parts ≡ Some ws
    → AreWords most parts ws
are-words most [] ws e =
    let same : [] ≡ ws = cc in subst (AreWords most []) same (record { few = omega arith; as_many = refl; text = refl })
are-words zero (part ∷ parts) ws e = absurd (cc)
are-words (suc most) (part ∷ parts) ws e =
    both_hold (AreWords (suc most) (part ∷ parts)) (λ (w : TypeWord) (us : List TypeWord). w ∷ us) (word_of part)
    (words_of most parts)
    (λ w is us are. let h = are-words most parts us are in record {
      few = omega (arith, h.few);
      as_many = ap suc h.as_many;
      text = word-before w us part parts (spelled part type_words w is) h.as_many h.text;
    }) ws e

pub words-length : (most : ℕ) (parts : List (List ℕ)) (ws : List TypeWord) → words_of most parts ≡ Some ws
    → length ws ≡ length parts
words-length most parts ws e = (are-words most parts ws e).as_many

-- the text of a name of type words is the name
pub words-text : (name : List ℕ) (ws : List TypeWord) → words_of 4 (parts_of name) ≡ Some ws → text_of (basic ws) ≡ name
words-text name ws e = (are-words 4 (parts_of name) ws e).text ∙ join_with_byte-slice_split 32 name

-- ---- how long type words are

word-bytes : (word : TypeWord) → length (type_word_spelling word) ≤ 8
word-bytes word = grind arith

words-bytes : (ws : List TypeWord) → length (text_of (basic ws)) ≤ 9 * length ws
words-bytes [] = omega arith
words-bytes (w ∷ []) =
    omega (arith, length-append (type_word_spelling w) [], word-bytes w)
words-bytes (w ∷ v ∷ ws) =
    omega (
      arith,
      length-append (type_word_spelling w) (32 ∷ text_of (basic (v ∷ ws))),
      word-bytes w,
      words-bytes
          (v ∷ ws),
    )

-- a name of more bytes is not type words
pub no_words : (name : List ℕ) → 36 < length name → is_some (words_of 4 (parts_of name)) ≡ false
no_words name long = by_words (words_of 4 (parts_of name)) refl
  where
    by_words : (found : Option (List TypeWord)) → words_of 4 (parts_of name) ≡ found → is_some found ≡ false
    by_words None is = refl
    by_words (Some ws) is =
        absurd (omega (
          arith,
          ap length (words-text name ws is),
          words-bytes ws,
          (are-words 4 (parts_of name) ws is).few,
        ))
