-- Chapter: a LEB128 number read from left to right, or the first fault.
use Rattle.std.specs.Prelude.{ℕ, ◌+◌, ◌*◌, ◌^◌, ◌%◌, List, [], ◌∷◌, Result, Ok, Err, nat_lt, Bool, ℤ, pos, negsuc, ◌-ℤ◌}
use Rattle.std.specs.Prelude.{if◌then◌else◌}
use Rattle.dw_forms.specs.Steps.{◌>>=◌}
pub use Rattle.dw_forms.specs.declared.leb.Spelling.{Spelling}
pub use Rattle.dw_forms.specs.declared.leb.NumberFault.{NumberFault}
use Rattle.dw_forms.specs.declared.leb.NumberFault.TheVariants.{Cut, BadNumber}

-- the first byte of these has this place, and those before it this sum
unfoldable pub spelling_from : ℕ → ℕ → List ℕ → Result Spelling NumberFault
spelling_from place sum [] = Err Cut
spelling_from place sum (byte ∷ bytes) =
    let total = sum + (byte % 128) * 128 ^ place in
    if nat_lt byte 128 then Ok (record { sum = total; last = byte; len = place + 1 })
    else (if nat_lt place 9 then spelling_from (place + 1) total bytes else Err BadNumber)

-- the number at the front: its sum, its last byte, its length
abbrev pub spelling_at : List ℕ → Result Spelling NumberFault
spelling_at bytes = spelling_from 0 0 bytes

-- the unsigned number at the front, and its length
unfoldable pub uleb_at : List ℕ → Result (ℕ × ℕ) NumberFault
uleb_at bytes = do
  s ← spelling_at bytes
  if nat_lt s.sum (2 ^ 64) then Ok (s.sum, s.len) else Err BadNumber

-- whether a number has at most 64 bits
abbrev pub fits_i64 : ℤ → Bool
fits_i64 (pos n) = nat_lt n (2 ^ 63)
fits_i64 (negsuc n) = nat_lt n (2 ^ 63)

-- the sum, less 128 to the power of the length where bit 6 of the last byte is set
abbrev pub signed_of : Spelling → ℤ
signed_of s = if nat_lt s.last 64 then pos s.sum else pos s.sum -ℤ pos (128 ^ s.len)

-- the signed number at the front, and its length
unfoldable pub sleb_at : List ℕ → Result (ℤ × ℕ) NumberFault
sleb_at bytes = do
  s ← spelling_at bytes
  if fits_i64 (signed_of s) then Ok (signed_of s, s.len) else Err BadNumber
