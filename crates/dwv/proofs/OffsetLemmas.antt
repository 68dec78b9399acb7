-- What is read of the digits of an offset.
use Rattle.std.proofs.Common.{◌≡◌, ℕ, ◌<◌, ◌≤◌, ◌^◌, ◌==◌, false, List, ◌++◌, length, drop, codes, Result, Ok, Err, sym, ap, ◌∙◌, subst, arith}
use Rattle.std.specs.Prelude.{SomeIff, slice_index}
use Rattle.std.specs.Result.{result_ok}
use Rattle.std.specs.Str.Parse.{IsNumeral, digits_value, ParsesUnsigned}
use Rattle.std.proofs.lemmas.Int.Digits.{digits_value-lt}
use Rattle.std.proofs.Math.Nat.{pow-le-pow_right}
use Rattle.dwv.specs.Words.{IsOffsetWord, offset_in}

-- an offset has 32 bits
fits : (word : List ℕ) → IsOffsetWord word → offset_in word < 2 ^ 32
fits word is =
    let below = digits_value-lt 16 (drop 2 word) is.digits.1 in
    let power : 16 ^ length (drop 2 word) ≤ 16 ^ 8 = pow-le-pow_right (omega arith) is.few in
    omega (arith, below, power)

-- what the library reads of the digits is the offset's number
pub offset_read : {E : Type 0} (word digits : List ℕ) (read : Result ℕ E) → word ≡ codes "0x" ++ drop 2 word
    → digits ≡ drop 2 word → length digits ≤ 8
    → (slice_index digits 0 == 43) ≡ false → ParsesUnsigned 32 16 digits read
    → SomeIff (result_ok read) (IsOffsetWord word) (offset_in word)
offset_read word digits (Ok n) front same few unsigned parsed =
    let plain : (IsNumeral 16 digits × (digits_value 16 digits < 2 ^ 32)) × (n ≡ digits_value 16 digits) =
    rw unsigned at parsed in
    let numeral = subst (IsNumeral 16) same plain.0.0 in
    let short = subst (λ ds. length ds ≤ 8) same few in
    (record { front = front; digits = numeral; few = short }, plain.1 ∙ ap (digits_value 16) same)
offset_read word digits (Err e) front same few unsigned parsed =
    let plain : (IsNumeral 16 digits × (digits_value 16 digits < 2 ^ 32)) → ⊥ = rw unsigned at parsed in
    λ is. plain (
      subst (IsNumeral 16) (sym same) is.digits,
      subst (λ ds. digits_value 16 ds < 2 ^ 32) (sym same) (fits word is),
    )
