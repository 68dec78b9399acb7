-- Chapter: LEB128 numbers (DWARF 5, 7.6): which bytes spell which number.
use Rattle.std.specs.Prelude.{◌≡◌, ℕ, ◌+◌, ◌*◌, ◌^◌, ◌%◌, ◌<◌, ◌≤◌, List, [], ◌∷◌, ◌++◌, length, take, All, ◌⊎◌, ℤ, pos}
use Rattle.std.specs.Prelude.{neg_ℤ, ◌-ℤ◌, ◌≤ℤ◌, ◌<ℤ◌, nat_lt, if◌then◌else◌}
use Rattle.dw_forms.specs.declared.leb.NumberFault.{NumberFault}
use Rattle.dw_forms.specs.declared.leb.NumberFault.TheVariants.{Cut, BadNumber}

-- each byte but the last is at least 128, and the last is below 128
abbrev pub IsEnded : List ℕ → Type 0
IsEnded [] = ⊥
IsEnded (byte ∷ []) = byte < 128
IsEnded (byte ∷ next ∷ bytes) = (128 ≤ byte) × IsEnded (next ∷ bytes)

-- the sum of (byte mod 128) times 128 to the power of the byte's place. The first byte has this place
unfoldable pub sum_from : ℕ → List ℕ → ℕ
sum_from place [] = 0
sum_from place (byte ∷ bytes) = (byte % 128) * 128 ^ place + sum_from (place + 1) bytes

-- the last byte
unfoldable pub last_of : List ℕ → ℕ
last_of [] = 0
last_of (byte ∷ []) = byte
last_of (byte ∷ next ∷ bytes) = last_of (next ∷ bytes)

-- the number without sign that the bytes spell
abbrev pub unsigned_value : List ℕ → ℕ
unsigned_value bytes = sum_from 0 bytes

-- the same sum, less 128 to the power of the number of bytes where bit 6 of the last byte is set
abbrev pub signed_value : List ℕ → ℤ
signed_value bytes = if nat_lt (last_of bytes) 64 then pos (sum_from 0 bytes) else pos (sum_from 0 bytes) -ℤ pos
    (128 ^ length bytes)

-- these bytes spell this unsigned number
pub record Uleb (bytes : List ℕ) (n : ℕ) : Type 0 where
  pub ended : IsEnded bytes
  pub short : length bytes ≤ 10
  pub value : n ≡ unsigned_value bytes
  pub fits : n < 2 ^ 64

-- a signed number of 64 bits
pub record IsI64 (n : ℤ) : Type 0 where
  pub low : neg_ℤ (pos (2 ^ 63)) ≤ℤ n
  pub high : n <ℤ pos (2 ^ 63)

-- these bytes spell this signed number
pub record Sleb (bytes : List ℕ) (n : ℤ) : Type 0 where
  pub ended : IsEnded bytes
  pub short : length bytes ≤ 10
  pub value : n ≡ signed_value bytes
  pub fits : IsI64 n

-- the number is cut: fewer than 10 bytes are there, and it goes on after each of them
pub record IsCut (bytes : List ℕ) : Type 0 where
  pub short : length bytes < 10
  pub open_ended : All (λ byte. 128 ≤ byte) bytes

-- the number is too long: it goes on after each of the first 10 bytes
pub record IsUnending (bytes : List ℕ) : Type 0 where
  pub long : 10 ≤ length bytes
  pub open_ended : All (λ byte. 128 ≤ byte) (take 10 bytes)

-- the first bytes are a number, but for its value
pub record HasValueOutside (Fits : List ℕ → Type 0) (bytes : List ℕ) : Type 0 where
  pub text : List ℕ
  pub rest : List ℕ
  pub parts : bytes ≡ text ++ rest
  pub ended : IsEnded text
  pub short : length text ≤ 10
  pub outside : Fits text → ⊥

-- why the bytes begin with no number whose value fits
abbrev pub LebFails : (List ℕ → Type 0) → List ℕ → NumberFault → Type 0
LebFails Fits bytes Cut = IsCut bytes
LebFails Fits bytes BadNumber = IsUnending bytes ⊎ HasValueOutside Fits bytes

-- why the bytes begin with no accepted unsigned number
abbrev pub UlebFails : List ℕ → NumberFault → Type 0
UlebFails = LebFails (λ text. unsigned_value text < 2 ^ 64)

-- why the bytes begin with no accepted signed number
abbrev pub SlebFails : List ℕ → NumberFault → Type 0
SlebFails = LebFails (λ text. IsI64 (signed_value text))
