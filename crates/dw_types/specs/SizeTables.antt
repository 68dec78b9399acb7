-- Chapter: tables with a size or none for each entry.
use Rattle.std.specs.Prelude.{◌≡◌, ℕ, ◌<◌, false, List, length, Option, None, Some, min, slice_index_or}
use Rattle.dw_forms.specs.Codes.{is_type_tag}
use Rattle.dw_entries.specs.Entries.{entries_of, DebugUnit}
use Rattle.dw_types.specs.Entries.{entry_in}

-- a size or none
abbrev pub Size : Type 0
Size = Option ℕ

-- the table that a list of sizes makes
abbrev pub size_at : List Size → ℕ → Size
size_at sizes node = slice_index_or sizes node None

-- a size, in which a limit represents all that is no smaller
abbrev pub cap_size : ℕ → Size → Size
cap_size limit None = None
cap_size limit (Some size) = Some (min limit size)

-- an entry that is no type has no size
abbrev pub OnlyTypesAreSized : List DebugUnit → (ℕ → Size) → Type 0
OnlyTypesAreSized us table = (node : ℕ) → is_type_tag (entry_in us node).head.decl.tag ≡ false → table node ≡ None

-- one of the entries; a table has a place for each of them
pub record HasSizePlaces (us : List DebugUnit) (sizes : List Size) (node : ℕ) : Type 0 where
  pub node_in : node < length (entries_of us)
  pub long : length sizes ≡ length (entries_of us)
