-- Chapter: what an image has: the sections that were verified, the units that they spell, and the entries of these.
use Rattle.std.specs.Prelude.{ℕ, List, length, Option, option_and_then}
use Rattle.std.specs.List.{count_by}
use Rattle.dw_elf.specs.declared.sections.Sections.{Sections}
use Rattle.dw_forms.specs.Codes.{DW_AT_name, DW_AT_type}
use Rattle.dw_entries.specs.Views.{sections_of, units_of, Entry, entries_of, placed, DebugUnit}
use Rattle.dw_links.specs.AttributeTexts.{text_at, text_place_at}
use Rattle.dw_links.specs.declared.texts.TextPlace.{TextPlace}
use Rattle.dw_links.specs.Targets.{target_of}
use Rattle.dw_types.specs.Graphs.{Graph}
use Rattle.dw_types.specs.Steps.{by_value}
use Rattle.dw_types.specs.SizeTables.{Size, size_at}
use Rattle.dw_image.specs.declared.image.Image.{Image}
use Rattle.dw_image.specs.Lookups.{is_type_entry, type_number}

-- the sections that were verified
unfoldable pub sections_in : Image → Sections
sections_in i = sections_of i.entries

-- the units of .debug_info, in order
unfoldable pub units_in : Image → List DebugUnit
units_in i = units_of i.entries

-- the entries of the units, numbered from 0 in rising offset
abbrev pub entries_in : Image → List Entry
entries_in i = entries_of (units_in i)

-- how many units there are
abbrev pub unit_count : Image → ℕ
unit_count i = length (units_in i)

-- how many entries there are
abbrev pub entry_count : Image → ℕ
entry_count i = length (entries_in i)

-- how many entries are types
unfoldable pub type_count : Image → ℕ
type_count i = count_by is_type_entry (entries_in i)

-- the size of each entry, by its number
unfoldable pub size_table_in : Image → ℕ → Size
size_table_in i = size_at i.sizes

-- the steps by value of each entry, by its number
unfoldable pub steps_in : Image → Graph
steps_in i = by_value (units_in i)

-- the name of an entry, if it has one
unfoldable pub name_in : Image → Entry → Option (List ℕ)
name_in i e = text_at (sections_in i) (entries_in i) (placed (units_in i)) e DW_AT_name

-- where it is
unfoldable pub name_place_in : Image → Entry → Option TextPlace
name_place_in i e = text_place_at (sections_in i) (entries_in i) (placed (units_in i)) e DW_AT_name

-- the number of the type that an entry's DW_AT_type reaches, if it reaches one
unfoldable pub type_in : Image → Entry → Option ℕ
type_in i e = option_and_then (type_number (entries_in i)) (target_of (entries_in i) (placed (units_in i)) e DW_AT_type)
