-- State: the bytes that a value has itself in .debug_info, and those that are left after them.
use Rattle.std.specs.Prelude.{◌≡◌, ℕ, ◌+◌, ◌-◌, ◌<◌, List, [], ◌∷◌, ◌++◌, All, length, drop}
use Rattle.dw_forms.specs.Value.{Datum, block, wide, text, expr}

-- the bytes of .debug_info that a value has itself: those of a block, an expression or a number of 16 bytes, and those
-- of a text with its zero byte
abbrev pub bytes_of : Datum → List ℕ
bytes_of (block bytes) = bytes
bytes_of (expr bytes) = bytes
bytes_of (wide bytes) = bytes
bytes_of (text bytes) = bytes ++ 0 ∷ []
bytes_of _ = []

-- no byte of a text is 0
abbrev pub HasNoZero : Datum → Type 0
HasNoZero (text bytes) = All (λ byte. 0 < byte) bytes
HasNoZero _ = Unit {0}

-- the bytes of a value are in some bytes, and these are left after them
pub record Leaves (v : Datum) (bytes rest : List ℕ) : Type 0 where
  pub before : List ℕ
  pub parts : bytes ≡ before ++ (bytes_of v ++ rest)
  pub no_zero : HasNoZero v

-- the bytes of a value are in a section, and end at this offset
pub record EndsAt (section : List ℕ) (v : Datum) (end : ℕ) : Type 0 where
  pub before : List ℕ
  pub rest : List ℕ
  pub parts : section ≡ before ++ (bytes_of v ++ rest)
  pub end_is : end ≡ length before + length (bytes_of v)
  pub no_zero : HasNoZero v

-- a section ends with these bytes
abbrev pub IsRest : (section bytes : List ℕ) → Type 0
IsRest section bytes = drop (length section - length bytes) section ≡ bytes
