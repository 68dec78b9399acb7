use Rattle.std.proofs.lemmas.Option.{slice_get-get_or}
use Rattle.dw_entries.specs.ByNumber.{no_entry}
use Rattle.dw_links.proofs.ClassLemmas.{in_units}
use Rattle.dw_types.specs.Entries.{entry_in}
use Rattle.dw_types.specs.Held.{entries_held, units_held}
use Rattle.dw_types.proofs.linked.LinkedEntries.address_size.Goals as goal

pub unit-requires-2 : goal.unit-requires-2
unit-requires-2 c =
    let it = c.args.self.now in
    let us = units_held it in
    rw (c.unit.ensures, c.requires.entry)
    (in_units _ _ us c.args.id (entry_in us c.args.id) it.cursor.entries.now.scanned.1.spells
    (slice_get-get_or (entries_held it) c.args.id no_entry c.requires.id))
