-- State: what an iterator over the units has left.
use Rattle.std.specs.Prelude.{List, map, drop}
use Rattle.dw_entries.specs.declared.units.Units.{Units}
use Rattle.dw_entries.specs.Views.{all_units}
use Rattle.dw_entries.specs.Lookups.{unit_head, UnitHead}

-- the units from its number on
abbrev pub units_left : Units → List UnitHead
units_left it = map unit_head (drop it.number (all_units it.entries.now))
