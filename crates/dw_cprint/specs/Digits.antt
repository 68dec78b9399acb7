-- Chapter: the digits of numbers, in decimal and in hexadecimal.
use Rattle.std.specs.Prelude.{ℕ, zero, suc, ◌^◌, ◌+◌, ◌/◌, ◌%◌, nat_lt, if◌then◌else◌, List, [], ◌∷◌, codes, map}
use Rattle.std.specs.Int.Digits.{digits_of}

-- a number in decimal, the highest digit first, which is 0 only in the number 0
unfoldable pub numeral : ℕ → List ℕ
numeral zero = codes "0"
numeral (suc n) = map (λ digit. 48 + digit) (digits_of 10 (suc n))

-- the digit of a number below 16, in lower case
abbrev pub hex_digit : ℕ → ℕ
hex_digit n = if nat_lt n 10 then 48 + n else 87 + n

-- the lowest k digits of n, the highest first
abbrev pub places : ℕ → ℕ → List ℕ
places zero n = []
places (suc k) n = hex_digit (n / 16 ^ k % 16) ∷ places k n
