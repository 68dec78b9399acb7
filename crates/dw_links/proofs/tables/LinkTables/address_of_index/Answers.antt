use Rattle.std.proofs.Common.{rules}
use Rattle.dw_links.proofs.SlotLemmas.{address_based, address_slot}
use Rattle.dw_links.proofs.TableLemmas.{based, size_in}
use Rattle.dw_links.proofs.tables.LinkTables.address_of_index.Goals as goal

pub unreachable-requires : goal.unreachable-requires
unreachable-requires c = search (rules, based, address_based)

pub slot-requires-clause-few : goal.slot-requires-clause-few
slot-requires-clause-few c = search (rules, size_in)

pub slot-requires-clause-within : goal.slot-requires-clause-within
slot-requires-clause-within c = search (rules, based, address_slot, size_in)

pub returns : goal.returns
returns c = search (rules, based)
