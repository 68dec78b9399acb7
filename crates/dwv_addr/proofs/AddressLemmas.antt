-- The digits of an address, and the lines of a text.
use Rattle.std.proofs.Common.{◌≡◌, ℕ, zero, suc, ◌+◌, ◌*◌, ◌<◌, ◌≤◌, ◌^◌, ◌==◌, Bool, true, false, List, [], ◌∷◌, length, slice_index, take, drop, refl, sym, ap, ap₂, ◌∙◌, arith}
use Rattle.std.proofs.Math.Nat.{pow-le-pow_right}
use Rattle.std.specs.Prelude.{◌&&◌, nat_lt}
use Rattle.std.specs.Char.{digit_value}
use Rattle.std.specs.Str.Parse.{digits_value}
use Rattle.std.proofs.lemmas.Bool.{lt-ltb}
use Rattle.std.proofs.lemmas.Grind.{common_steps}
use Rattle.std.proofs.lemmas.Int.Digits.{digits_value_more}
use Rattle.std.proofs.lemmas.List.Folds.{list_all_more}
use Rattle.dwv_addr.specs.Addresses.{are_digits, led_by, lines_of}

-- a number of fewer than 16 digits and a digit more have 64 bits
pub digit_fits : (number i : ℕ) → number < 16 ^ i → i < 16 → number * 16 + 16 ≤ 2 ^ 64
digit_fits number i below few =
    let least : 0 < 16 = omega arith in
    let most : i ≤ 15 = omega (arith, few) in
    let power : 16 ^ i ≤ 16 ^ 15 = pow-le-pow_right least most in
    omega (arith, below, power)

-- a bit that is not set
pub not_true : (b : Bool) → (b ≡ true → ⊥) → b ≡ false
not_true true never = absurd (never refl)
not_true false never = refl

-- a digit more
pub digit_more : (digits : List ℕ) (i number : ℕ) → i < length digits → digit_value (slice_index digits i) < 16
    → number ≡ digits_value 16 (take i digits) → number < 16 ^ i → are_digits (take i digits) ≡ true
    → (number * 16 + digit_value (slice_index digits i) ≡ digits_value 16 (take (i + 1) digits))
    × (number * 16 + digit_value (slice_index digits i) < 16 ^ (i + 1))
    × (are_digits (take (i + 1) digits) ≡ true)
digit_more digits i number within digit is below are =
    let value = digit_value (slice_index digits i) in
    let power : 16 ^ (i + 1) ≡ 16 ^ i * 16 = grind (arith, common_steps) in (
      ap (λ n. n * 16 + value) is ∙ sym (digits_value_more 16 digits i within),
      omega (arith, power, below, digit),
      list_all_more (λ b. nat_lt (digit_value b) 16) digits i 0 within
          ∙ ap₂ (λ (a b : Bool). a && b) are (lt-ltb _ _ digit),
    )

-- a line that ends at the first line feed
pub line_cut : (text : List ℕ) (at : ℕ) → at < length text
    → ((k : ℕ) → 0 ≤ k → k < at → (slice_index text k == 10) ≡ true → ⊥) → (slice_index text at == 10) ≡ true
    → lines_of text ≡ take at text ∷ lines_of (drop (at + 1) text)
line_cut [] at within before here = absurd (omega arith)
line_cut (b ∷ text) zero within before here = rw here refl
line_cut (b ∷ text) (suc at) within before here =
    let plain : (b == 10) ≡ false = not_true _ (before 0 (omega arith) (omega arith)) in
    let more = line_cut text at (omega (arith, within))
    (λ k low high. before (suc k) (omega arith) (omega (arith, high)))
    here in
    let next : suc at + 1 ≡ suc (at + 1) = omega arith in
    rw (plain, next) (ap (led_by b) more)

-- a line that no line feed ends
pub line_whole : (text : List ℕ) → 0 < length text
    → ((k : ℕ) → 0 ≤ k → k < length text → (slice_index text k == 10) ≡ true → ⊥) → lines_of text ≡ text ∷ []
line_whole [] some none = absurd (omega arith)
line_whole (b ∷ []) some none =
    let plain : (b == 10) ≡ false = not_true _ (none 0 (omega arith) (omega arith)) in rw plain refl
line_whole (b ∷ c ∷ text) some none =
    let plain : (b == 10) ≡ false = not_true _ (none 0 (omega arith) (omega arith)) in
    let more = line_whole (c ∷ text) (omega arith) (λ k low high. none (suc k) (omega arith) (omega (arith, high))) in
    rw plain (ap (led_by b) more)
