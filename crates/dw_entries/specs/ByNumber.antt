-- Chapter: entries and units by number. Past the last one, all is zero, absent or empty.
use Rattle.std.specs.Prelude.{ℕ, ◌+◌, List, [], None, false, slice_index_or}
use Rattle.dw_entries.specs.declared.header.HeaderKind.TheVariants.{Version4}
use Rattle.dw_entries.specs.Tree.{leaf, Head}
pub use Rattle.dw_entries.specs.Entries.{Entry, node_count, PlacedUnit, DebugUnit}

-- a head without attributes
abbrev no_head : Head
no_head = record {
  decl = record { code = 0; tag = 0; has_children = false; attributes = [] };
  code = [];
  attributes = [];
}

-- the entry of a number past the last entry
abbrev pub no_entry : Entry
no_entry = record { at = 0; unit = 0; parent = None; depth = 0; next = None; head = no_head }

-- the entry of a number
abbrev pub entry_of : List Entry → ℕ → Entry
entry_of entries number = slice_index_or entries number no_entry

-- the unit of a number past the last unit
abbrev pub no_unit : DebugUnit
no_unit = record {
  at = 0;
  header = record { unit_length = 0; kind = Version4; address_size = 0; abbrev_offset = 0 };
  header_bytes = [];
  table = [];
  root = leaf no_head;
  nulls = [];
}

-- the unit of a number
abbrev pub unit_of : List DebugUnit → ℕ → DebugUnit
unit_of units number = slice_index_or units number no_unit

-- the unit of a number past the last unit, at its place
abbrev pub no_placed : PlacedUnit
no_placed = record { at = 0; first = 0; unit = no_unit }

-- the unit of a number, at its place
abbrev pub placed_of : List PlacedUnit → ℕ → PlacedUnit
placed_of units number = slice_index_or units number no_placed

-- the number of the entry after the last one of the unit of a number
abbrev pub end_in : List PlacedUnit → ℕ → ℕ
end_in units number = (placed_of units number).first + node_count (placed_of units number).unit.root
