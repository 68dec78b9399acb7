use Rattle.std.proofs.Common.{rules, ap, ◌∙◌}
use Rattle.dw_entries.specs.PassedAttributes.{IsNotOpen}
use Rattle.dw_entries.specs.ValuesLeft.{values_left}
use Rattle.dw_links.proofs.ClassLemmas.{others_pass, ClassFails}
use Rattle.dw_links.proofs.RuleSteps.{none_checked, checked_fails, checked_more, checked_all, fewer, entry_head}
use Rattle.dw_links.proofs.UnitToAll.{unit_below, all_entries, all_units, entry_of}
use Rattle.dw_entries.specs.declared.entry.EntryHead.{EntryHead}
use Rattle.dw_links.proofs.class.check_entry.Goals as goal

pub loop-item-init : goal.loop-item-init
loop-item-init c = search (rules, none_checked)

pub ask_class-requires : goal.ask_class-requires
ask_class-requires c =
    unit_below c.args.entries.now c.args.id c.head-head.result.unit c.requires
    (ap (λ (h : EntryHead). h.unit) (c.head-head.ensures ∙ ap entry_head c.at-entry.ensures))

pub returns-in-Some-ask_class-clause-err : goal.returns-in-Some-ask_class-clause-err
returns-in-Some-ask_class-clause-err c =
    let us = all_units c.args.entries.now in
    let told = c.head-head.ensures ∙ ap entry_head c.at-entry.ensures in
    checked_fails (ClassFails us) IsNotOpen (others_pass us) (entry_of (all_entries c.args.entries.now) c.args.id)
    _ _ _ _ c.loop-item.invariant c.in-Some.ensures.some c.in-Some-ask_class.rule c.plain_fault_at.result
    (rw told at c.in-Some-ask_class.ensures) (rw told at c.plain_fault_at.ensures)

pub loop-item-preserved : goal.loop-item-preserved
loop-item-preserved c =
    let us = all_units c.args.entries.now in
    let told = c.head-head.ensures ∙ ap entry_head c.at-entry.ensures in
    checked_more (ClassFails us) IsNotOpen (others_pass us) (entry_of (all_entries c.args.entries.now) c.args.id)
    _ _ _ _ c.loop-item.invariant c.in-Some.ensures.some (rw told at c.in_default-ask_class.ensures)

pub loop-item-smaller : goal.loop-item-smaller
loop-item-smaller c = search (rules, fewer)

pub returns-clause-ok : goal.returns-clause-ok
returns-clause-ok c =
    let us = all_units c.args.entries.now in
    checked_all (ClassFails us) IsNotOpen (others_pass us) (entry_of (all_entries c.args.entries.now) c.args.id)
    (values_left c.loop-item.values) c.loop-item.invariant c.in_default.ensures.none
