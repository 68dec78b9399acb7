use Rattle.std.proofs.Common.{rules, None, Some, ap, sym, ◌∙◌}
use Rattle.dw_forms.specs.Value.{view}
use Rattle.dw_entries.specs.Leading.{DoesNotLead, leading_left}
use Rattle.dw_links.proofs.ClassLemmas.{passes_texts}
use Rattle.dw_links.proofs.RuleSteps.{none_checked, checked_fails, checked_more, checked_all, fewer, entry_head}
use Rattle.dw_links.proofs.UnitToAll.{least_by_texts, all_entries, FailsByText, entry_of}
use Rattle.dw_links.proofs.strings.check_entry.Goals as goal

pub loop-led-init : goal.loop-led-init
loop-led-init c = search (rules, none_checked)

pub returns-in-Some-ask-clause-err : goal.returns-in-Some-ask-clause-err
returns-in-Some-ask-clause-err c =
    let entries = c.args.entries.now in
    let told = c.head-head.ensures ∙ ap entry_head c.at-entry.ensures in
    checked_fails (FailsByText entries) DoesNotLead (passes_texts entries) (entry_of (all_entries entries) c.args.id)
    (leading_left c.loop-led.leading) (leading_left c.take.new.self) c.item-item.result.0 (view c.item-item.result.1)
    c.loop-led.invariant (rw c.item-item.ensures c.in-Some.ensures.next) c.in-Some-ask.rule c.plain_fault_at.result
    (least_by_texts entries c.args.texts.now (entry_head (entry_of (all_entries entries) c.args.id)) c.requires.texts
    (sym c.requires.unit) c.item-item.result.0 (view c.item-item.result.1) (Some c.in-Some-ask.rule)
    (rw told at c.in-Some-ask.ensures)) (rw told at c.plain_fault_at.ensures)

pub loop-led-preserved : goal.loop-led-preserved
loop-led-preserved c =
    let entries = c.args.entries.now in
    let told = c.head-head.ensures ∙ ap entry_head c.at-entry.ensures in
    checked_more (FailsByText entries) DoesNotLead (passes_texts entries) (entry_of (all_entries entries) c.args.id)
    (leading_left c.loop-led.leading) (leading_left c.take.new.self) c.item-item.result.0 (view c.item-item.result.1)
    c.loop-led.invariant (rw c.item-item.ensures c.in-Some.ensures.next)
    (least_by_texts entries c.args.texts.now (entry_head (entry_of (all_entries entries) c.args.id)) c.requires.texts
    (sym c.requires.unit) c.item-item.result.0 (view c.item-item.result.1) None
    (rw told at c.in_default-ask.ensures))

pub loop-led-smaller : goal.loop-led-smaller
loop-led-smaller c = search (rules, fewer)

pub returns-clause-ok : goal.returns-clause-ok
returns-clause-ok c =
    checked_all (FailsByText c.args.entries.now) DoesNotLead (passes_texts c.args.entries.now)
    (entry_of (all_entries c.args.entries.now) c.args.id) (leading_left c.loop-led.leading) c.loop-led.invariant
    c.in_default.ensures.none
