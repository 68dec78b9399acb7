-- Chapter: entries by their number: what they refer to, and what is read of their units (DWARF 5, 2.3, 3.1 and 7.5).
use Rattle.std.specs.Prelude.{ℕ, List, Option, length}
use Rattle.std.specs.List.{range_with_len}
use Rattle.dw_forms.specs.Codes.{DW_AT_byte_size, DW_AT_signature, DW_AT_type}
use Rattle.dw_entries.specs.ByNumber.{entry_of, placed_of}
use Rattle.dw_entries.specs.Entries.{Entry, entries_of, placed, DebugUnit}
use Rattle.dw_links.specs.declared.constant.Constant.{Constant}
use Rattle.dw_links.specs.Constants.{constant_at, language_at}
use Rattle.dw_links.specs.Targets.{target_of}

-- the entry of a number
abbrev pub entry_in : List DebugUnit → ℕ → Entry
entry_in us node = entry_of (entries_of us) node

-- the numbers of all entries
abbrev pub entry_numbers : List DebugUnit → List ℕ
entry_numbers us = range_with_len 0 (length (entries_of us))

-- the entry that DW_AT_type refers to
abbrev pub type_target : List DebugUnit → ℕ → Option ℕ
type_target us node = target_of (entries_of us) (placed us) (entry_in us node) DW_AT_type

-- the entry that DW_AT_signature refers to
abbrev pub signature_target : List DebugUnit → ℕ → Option ℕ
signature_target us node = target_of (entries_of us) (placed us) (entry_in us node) DW_AT_signature

-- how many bytes an address has in the unit of an entry
abbrev pub unit_address_size : List DebugUnit → ℕ → ℕ
unit_address_size us node = (placed_of (placed us) (entry_in us node).unit).unit.header.address_size

-- the language of the unit of an entry
abbrev pub language : List DebugUnit → ℕ → Constant
language us node = language_at (placed us) (entry_in us node).unit

-- the byte size
abbrev pub byte_size : Entry → Constant
byte_size entry = constant_at entry DW_AT_byte_size
