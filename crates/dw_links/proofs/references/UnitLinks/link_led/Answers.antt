use Rattle.std.proofs.Common.{rules, ap, ◌∙◌}
use Rattle.dw_forms.specs.Codes.{DW_AT_type}
use Rattle.dw_links.specs.EntryLinks.{kept_after}
use Rattle.dw_links.proofs.LeadSteps.{after_within, well_keeps, type_keeps}
use Rattle.dw_links.proofs.references.UnitLinks.link_led.Goals as goal

pub number_of-target-requires : goal.number_of-target-requires
number_of-target-requires c = search (rules, after_within)

pub returns-in-Some-clause-ok : goal.returns-in-Some-clause-ok
returns-in-Some-clause-ok c =
    rw c.in-Type.is (type_keeps c.args.self.now c.args.id c.requires.may c.args.kept c.in-Type.offset c.in-Some.target
    c.keep.result c.in-Some.ensures
    (c.keep.ensures ∙ ap (kept_after c.args.kept DW_AT_type) c.number_of-target.ensures))

pub returns-then-leads_well-clause-ok : goal.returns-then-leads_well-clause-ok
returns-then-leads_well-clause-ok c =
    well_keeps c.args.self.now c.args.id c.requires.may c.args.kept c.args.led.now c.requires.led.0 c.requires.led.1
    c.if-leads_well.ensures
