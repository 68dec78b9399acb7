-- State: the units and the entries that linked entries hold.
use Rattle.std.specs.Prelude.{List}
use Rattle.dw_entries.specs.Units.{DebugUnit}
use Rattle.dw_entries.specs.Views.{all_entries, units_of, Entry}
use Rattle.dw_types.specs.declared.linked.LinkedEntries.{LinkedEntries}

-- the units
abbrev pub units_held : LinkedEntries → List DebugUnit
units_held it = units_of it.cursor.entries.now

-- the entries, numbered from 0 in rising offset
abbrev pub entries_held : LinkedEntries → List Entry
entries_held it = all_entries it.cursor.entries.now
