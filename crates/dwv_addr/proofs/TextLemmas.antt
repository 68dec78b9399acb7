-- The texts of names and paths in JSON.
use Rattle.std.proofs.Common.{◌≡◌, ℕ, zero, suc, ◌<◌, ◌/◌, ◌%◌, ◌^◌, Bool, true, false, List, [], ◌∷◌, ◌++◌, refl, ◌∙◌, subst, codes, arith}
use Rattle.std.specs.Prelude.{nat_lt, if◌then◌else◌, ◌||◌, ◌==◌}
use Rattle.std.specs.List.{flat_map}
use Rattle.std.specs.Str.{IsAscii, IsUtf8, is_utf8}
use Rattle.std.proofs.lemmas.Bool.{ltb-true}
use Rattle.std.proofs.lemmas.Str.Ascii.{IsAscii-nil}
use Rattle.std.proofs.lemmas.Str.{IsAscii-append, IsUtf8-from_ascii, IsUtf8-from_is_utf8, is_utf8-from_IsUtf8}
use Rattle.std.proofs.Math.Nat.{mod-lt}
use Rattle.dw_cprint.specs.Digits.{hex_digit, places}
use Rattle.dwv_addr.specs.Answers.{glyph}
use Rattle.dwv_addr.specs.AnswerObjects.{ascii_glyph, object_text}

-- the bytes of a text are those that are written in a line
pub shown : (bytes text : List ℕ) → IsUtf8 text → text ≡ flat_map glyph bytes → text ≡ object_text bytes
shown bytes text valid is =
    let known : is_utf8 (flat_map glyph bytes) ≡ true = is_utf8-from_IsUtf8 _ (subst IsUtf8 is valid) in
    is ∙ rw known refl

-- they are others
pub not_shown : (bytes : List ℕ) → (IsUtf8 (flat_map glyph bytes) → ⊥)
    → flat_map ascii_glyph bytes ≡ object_text bytes
not_shown bytes invalid = go (is_utf8 (flat_map glyph bytes)) refl
  where
    go : (b : Bool) → is_utf8 (flat_map glyph bytes) ≡ b → flat_map ascii_glyph bytes ≡ object_text bytes
    go true is = absurd (invalid (IsUtf8-from_is_utf8 _ is))
    go false is = rw is refl

one_more : (b : ℕ) (bytes : List ℕ) → b < 128 → IsAscii bytes → IsAscii (b ∷ bytes)
one_more b bytes low rest zero = low
one_more b bytes low rest (suc i) = rest i

digit_low : (n : ℕ) → n < 16 → hex_digit n < 128
digit_low n small = go (nat_lt n 10) refl
  where
    go : (b : Bool) → nat_lt n 10 ≡ b → hex_digit n < 128
    go true is = rw is (omega (arith, small))
    go false is = rw is (omega (arith, small))

escape_ascii : (b : ℕ) → IsAscii (codes "\\x" ++ places 2 b)
escape_ascii b =
    let high = b / 16 ^ 1 in
    let low = b / 16 ^ 0 in
    let last = hex_digit (low % 16) ∷ [] in
    let digits = hex_digit (high % 16) ∷ last in
    one_more 92 (120 ∷ digits) (omega arith) (one_more 120 digits (omega arith)
    (one_more (hex_digit (high % 16)) last (digit_low _ (mod-lt high (omega arith)))
    (one_more (hex_digit (low % 16)) [] (digit_low _ (mod-lt low (omega arith))) IsAscii-nil)))

glyph_ascii : (b : ℕ) → b < 128 → IsAscii (glyph b)
unfolding glyph
glyph_ascii b low = go (nat_lt b 0x20 || b == 0x7f || b == 0x5c)
  where
    go : (c : Bool) → IsAscii (if c then codes "\\x" ++ places 2 b else b ∷ [])
    go true = escape_ascii b
    go false = one_more b [] low IsAscii-nil

ascii_glyph_ascii : (b : ℕ) → IsAscii (ascii_glyph b)
unfolding ascii_glyph
ascii_glyph_ascii b = go (nat_lt b 0x80) refl
  where
    go : (c : Bool) → nat_lt b 0x80 ≡ c → IsAscii (if c then glyph b else codes "\\x" ++ places 2 b)
    go true is = glyph_ascii b (ltb-true _ _ is)
    go false is = escape_ascii b

are_ascii : (bytes : List ℕ) → IsAscii (flat_map ascii_glyph bytes)
are_ascii [] = IsAscii-nil
are_ascii (b ∷ bytes) =
    IsAscii-append (ascii_glyph b) (flat_map ascii_glyph bytes) (ascii_glyph_ascii b) (are_ascii bytes)

-- a text in ASCII is UTF-8
pub are_utf8 : (bytes : List ℕ) → IsUtf8 (flat_map ascii_glyph bytes)
are_utf8 bytes = IsUtf8-from_ascii _ (are_ascii bytes)
