-- Chapter: contributions to .debug_str_offsets and .debug_addr (DWARF 5, 7.26 and 7.27), and strings at offsets.
use Rattle.std.specs.Prelude.{◌≡◌, ℕ, ◌+◌, ◌-◌, ◌*◌, ◌/◌, ◌%◌, ◌<◌, ◌≤◌, List, length, slice_index, Option, None}
use Rattle.std.specs.Prelude.{Some}
use Rattle.dw_elf.specs.Elf.{number_at}
pub use Rattle.dw_elf.specs.Elf.{string_at}

-- the length in the header before a base, which counts all bytes after itself
abbrev pub length_before : List ℕ → ℕ → ℕ
length_before section base = number_at 4 section (base - 8)

-- the first slot of a contribution is at the base, and its header of 8 bytes is before it: a length, the
-- version, and two bytes, which are the mark and 0; a slot has so many bytes
pub record IsContribution (section : List ℕ) (slot mark base : ℕ) : Type 0 where
  pub header : 8 ≤ base
  pub within : base ≤ length section
  pub is_32_bit : length_before section base < 0xfffffff0
  pub long : 4 ≤ length_before section base
  pub version : number_at 2 section (base - 4) ≡ 5
  pub marked : number_at 1 section (base - 2) ≡ mark
  pub zero_behind : number_at 1 section (base - 1) ≡ 0
  pub slots : (length_before section base - 4) % slot ≡ 0
  pub ends : base - 4 + length_before section base ≤ length section

-- how many slots it has
abbrev pub slot_count : List ℕ → ℕ → ℕ → ℕ
slot_count section slot base = (length_before section base - 4) / slot

-- the number in a slot
abbrev pub slot_at : List ℕ → ℕ → ℕ → ℕ → ℕ
slot_at section slot base index = number_at slot section (base + slot * index)

-- how many slots the contribution at a base has; None where its header is malformed
abbrev pub IsCount : List ℕ → (slot mark base : ℕ) → Option ℕ → Type 0
IsCount section slot mark base None = IsContribution section slot mark base → ⊥
IsCount section slot mark base (Some count) = IsContribution section slot mark base
    × (count ≡ slot_count section slot base)

-- a string begins at the offset: a zero byte is there or after it
pub record HasZeroFrom (section : List ℕ) (offset : ℕ) : Type 0 where
  pub last : ℕ
  pub behind : offset ≤ last
  pub within : last < length section
  pub is_zero : slice_index section last ≡ 0
