-- State: the sections, the units and the entries that a scan found.
use Rattle.std.specs.Prelude.{List}
use Rattle.dw_elf.specs.declared.sections.Sections.{Sections}
pub use Rattle.dw_entries.specs.declared.entries.Entries.{Entries}
pub use Rattle.dw_entries.specs.Entries.{Entry, entries_of, PlacedUnit, placed, DebugUnit}
use Rattle.dw_entries.specs.Scanned.{found_units}

-- the sections that were scanned
abbrev pub sections_of : Entries → Sections
sections_of it = it.sections

-- the units that .debug_info is
abbrev pub units_of : Entries → List DebugUnit
units_of it = found_units it.scanned

-- the units, each with its place
abbrev pub all_units : Entries → List PlacedUnit
all_units it = placed (units_of it)

-- the entries, in rising offset
abbrev pub all_entries : Entries → List Entry
all_entries it = entries_of (units_of it)
