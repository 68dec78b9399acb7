-- State: flags of entries, one bit each in words of 64.
use Rattle.std.specs.Prelude.{◌≡◌, ℕ, ◌*◌, ◌/◌, ◌%◌, ◌<◌, Bool, ◌==◌, List, length, slice_index_or}
use Rattle.std.specs.Int.{bit_at}
use Rattle.dw_entries.specs.Entries.{entries_of, DebugUnit}
use Rattle.dw_types.specs.declared.flags.Flags.{Flags}
use Rattle.dw_types.specs.Entries.{entry_in}
use Rattle.dw_types.specs.Kinds.{has_members}

-- the bit of a number in words of 64 bits
abbrev pub bit_in : List ℕ → ℕ → Bool
bit_in words number = bit_at (slice_index_or words (number / 64) 0) (number % 64) == 1

-- the flag of a number
abbrev pub flag_at : Flags → ℕ → Bool
flag_at flags number = bit_in flags.words.items number

-- how many flags there are
abbrev pub flag_count : Flags → ℕ
flag_count flags = 64 * length flags.words.items

-- the flags tell which entries are structures or unions that are not declared
pub record TellMembers (us : List DebugUnit) (flags : Flags) : Type 0 where
  pub room : length (entries_of us) < flag_count flags
  pub told : (k : ℕ) → k < length (entries_of us) → flag_at flags k ≡ has_members (entry_in us k)
