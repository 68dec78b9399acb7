-- State: sizes stored in one number each, sizes capped at 2^63, and flags of entries at which a rule on sizes may fail.
use Rattle.std.specs.Prelude.{ℕ, suc, zero, false, List, None, Some, map, ◌≡◌, ◌^◌, ◌<◌, length}
use Rattle.dw_types.specs.Entries.{entry_in}
use Rattle.dw_types.specs.SizeFaults.{may_fail}
use Rattle.dw_types.specs.SizeTables.{Size, cap_size}
use Rattle.dw_types.specs.Sizes.{size_line}
use Rattle.dw_types.specs.StoredFlags.{flag_at, flag_count}
use Rattle.dw_types.specs.declared.flags.Flags.{Flags}
use Rattle.dw_entries.specs.Entries.{entries_of, DebugUnit}

-- the size that a number represents: none for 0, or the number before it
abbrev pub size_in : ℕ → Size
size_in zero = None
size_in (suc n) = Some n

-- the sizes that numbers represent
abbrev pub sizes_in : List ℕ → List Size
sizes_in numbers = map size_in numbers

-- at each entry the table has the size that its line says of it, capped
abbrev pub ObeysCappedLines : List DebugUnit → (ℕ → Size) → Type 0
ObeysCappedLines us table =
    (node : ℕ) → node < length (entries_of us) → table node ≡ cap_size (2 ^ 63) (size_line us table node)

-- by a table of sizes no rule on sizes may fail at an entry whose flag is not set
pub record TellAsked (us : List DebugUnit) (table : ℕ → Size) (flags : Flags) : Type 0 where
  pub room : length (entries_of us) < flag_count flags
  pub told : (k : ℕ) → k < length (entries_of us) → flag_at flags k ≡ false → may_fail (entry_in us k) (table k) ≡ false
