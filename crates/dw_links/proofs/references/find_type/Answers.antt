use Rattle.std.proofs.Common.{rules, ◌+◌, ◌∙◌, ap, sym}
use Rattle.dw_entries.proofs.EntryFacts.{entries_rise, length-placed, placed_of}
use Rattle.dw_links.proofs.LinkedEntries.{not_typed}
use Rattle.dw_entries.specs.Views.{all_units, units_of, entries_of}
use Rattle.dw_forms.specs.Codes.{is_type_tag}
use Rattle.dw_links.proofs.references.find_type.Goals as goal

pub returns-in_default-clause-none : goal.returns-in_default-clause-none
returns-in_default-clause-none c = search (rules, length-placed)

pub returns-clause-none : goal.returns-clause-none
returns-clause-none c =
    let us = units_of c.args.entries.now in
    not_typed (entries_of us) c.args.number
    ((placed_of (all_units c.args.entries.now) c.args.number).at + c.args.type_offset) c.in-Some.id
    (entries_rise _ us c.args.entries.now.scanned.1.spells.are) c.in-Some.ensures.found.target
    (ap is_type_tag (sym c.tag.ensures) ∙ sym c.if-is_type.ensures)
