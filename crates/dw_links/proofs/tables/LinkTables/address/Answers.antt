use Rattle.std.proofs.Common.{rules, ◌∙◌, sym}
use Rattle.dw_links.specs.AttributeTexts.{address_at}
use Rattle.dw_links.proofs.TableLemmas.{address_is, entry_unit, held}
use Rattle.dw_links.proofs.UnitToAll.{unit_below}
use Rattle.dw_links.proofs.tables.LinkTables.address.Goals as goal

pub address_of_index-requires-clause-unit : goal.address_of_index-requires-clause-unit
address_of_index-requires-clause-unit c = search (rules, unit_below)

pub address_of_index-requires-clause-lies : goal.address_of_index-requires-clause-lies
address_of_index-requires-clause-lies c =
    rw c.unit_of.ensures (rw c.in-AddrIndex.is at
    (held c.args.entries.now c.args.id c.args.attribute _ c.requires.id c.in_ok-value.ensures c.requires.strings))

pub returns-in-Addr : goal.returns-in-Addr
returns-in-Addr c =
    rw c.in-Addr.is at
    (address_is c.args.entries.now c.args.id c.args.attribute _ c.requires.id c.in_ok-value.ensures)

pub returns-in-AddrIndex : goal.returns-in-AddrIndex
returns-in-AddrIndex c =
    sym (rw c.unit_of.ensures at c.address_of_index.ensures)
    ∙ (rw c.in-AddrIndex.is at
    (address_is c.args.entries.now c.args.id c.args.attribute _ c.requires.id c.in_ok-value.ensures))

pub returns-in_default : goal.returns-in_default
returns-in_default c =
    search (rules, (address_is c.args.entries.now c.args.id c.args.attribute _ c.requires.id c.in_ok-value.ensures))

pub returns-in_err-value : goal.returns-in_err-value
unfolding address_at
returns-in_err-value c = search (rules, entry_unit)
