use Rattle.std.proofs.Common.{rules, ap, ◌∙◌, unwrap_or}
use Rattle.std.proofs.lemmas.Result.{err_from_is_err_and}
use Rattle.dw_entries.specs.Led.{item_of}
use Rattle.dw_entries.specs.Leading.{leading_left}
use Rattle.dw_links.specs.UnitAtHand.{entries_followed, entry_with}
use Rattle.dw_links.proofs.RuleSteps.{fewer, none_so_far, more_so_far, fails_so_far, linked_at_end}
use Rattle.dw_links.proofs.references.UnitLinks.link_entry.Goals as goal

pub loop-led-init : goal.loop-led-init
loop-led-init c = search (rules, none_so_far)

pub link_led-requires-clause-led : goal.link_led-requires-clause-led
link_led-requires-clause-led c = (c.in-Some.ensures.led.spec, c.in-Some.ensures.led.is_led)

pub returns-in_err-after-clause-err : goal.returns-in_err-after-clause-err
returns-in_err-after-clause-err c =
    let p = err_from_is_err_and c.from_residual.result c.from_residual.ensures.1 in
    rw (p.1, p.2) (fails_so_far (entries_followed c.args.self.now) (entry_with c.args.self.now c.args.id)
    (leading_left c.loop-led.leading) c.loop-led.kept c.loop-led.invariant.so_far (item_of c.in-Some.led)
    (leading_left c.take.new.self) c.in-Some.ensures.next _ c.in_err-after.ensures.err)

pub loop-led-preserved : goal.loop-led-preserved
loop-led-preserved c = record {
  so_far =
      more_so_far (entries_followed c.args.self.now) (entry_with c.args.self.now c.args.id)
      (leading_left c.loop-led.leading) c.loop-led.kept c.loop-led.invariant.so_far (item_of c.in-Some.led)
      (leading_left c.take.new.self) c.in-Some.ensures.next c.in_ok-after.after c.in_ok-after.ensures.ok.0
      c.in_ok-after.ensures.ok.1 c.in_ok-after.ensures.ok.2;
  of = c.in_ok-after.ensures.of;
}

pub loop-led-smaller : goal.loop-led-smaller
loop-led-smaller c = search (rules, fewer)

pub returns-clause-ok : goal.returns-clause-ok
returns-clause-ok c =
    linked_at_end (entries_followed c.args.self.now) (entry_with c.args.self.now c.args.id)
    (leading_left c.loop-led.leading)
    c.loop-led.kept c.unwrap_or.result (c.unwrap_or.ensures ∙ ap (unwrap_or c.loop-led.kept) c.none.ensures)
    c.loop-led.invariant.so_far c.in_default.ensures.none
