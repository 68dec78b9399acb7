use Rattle.std.proofs.Common.{rules}
use Rattle.dw_links.proofs.SlotLemmas.{string_based, string_slot, string_there}
use Rattle.dw_links.proofs.TableLemmas.{based}
use Rattle.dw_links.proofs.tables.LinkTables.place_of_index.Goals as goal

pub unreachable-requires : goal.unreachable-requires
unreachable-requires c = search (rules, based, string_based)

pub slot-offset-requires-clause-within : goal.slot-offset-requires-clause-within
slot-offset-requires-clause-within c = search (rules, based, string_slot)

pub returns : goal.returns
returns c = search (rules, based, string_there)
