use Rattle.std.proofs.Common.{[], sym, arith}
use Rattle.std.proofs.lemmas.List.{append-nil, take_rest, length-drop}
use Rattle.dw_ranges.proofs.ListSteps.{begins, ends, rebased, appended, fails, extends_more}
use Rattle.dw_ranges.proofs.list.append_ranges.Goals as goal

pub loop-rule-init : goal.loop-rule-init
loop-rule-init c =
    rw take_rest (
      ([], sym (append-nil c.args.ranges.now.items)),
      omega (arith, length-drop c.args.offset c.args.section.now),
      begins c.args.unit.now c.args.section.now c.args.ranges.now.items c.args.offset c.requires,
    )

pub returns-in-Err-clause-exact : goal.returns-in-Err-clause-exact
returns-in-Err-clause-exact c = fails _ _ _ _ _ _ _ c.loop-rule.invariant.2 c.in-Err.ensures.exact

pub returns-in-Ok-End-clause-exact : goal.returns-in-Ok-End-clause-exact
returns-in-Ok-End-clause-exact c =
    ends _ _ _ _ _ _ _ c.loop-rule.invariant.2 (rw c.in-Ok-End.field-0-is at c.in-Ok-End.ensures.exact)

pub loop-rule-preserved-in-Ok-Base : goal.loop-rule-preserved-in-Ok-Base
loop-rule-preserved-in-Ok-Base c = (
  c.loop-rule.invariant.0,
  omega (arith, c.loop-rule.invariant.1, c.in-Ok-Base.ensures.shorter),
  rebased _ _ _ _ _ _ _ _ c.loop-rule.invariant.2 (rw c.in-Ok-Base.field-0-is at c.in-Ok-Base.ensures.exact)
      c.in-Ok-Base.ensures.shorter,
)

pub loop-rule-preserved : goal.loop-rule-preserved
loop-rule-preserved c =
    rw c.in_ok-push-in-Ok-Bounded.ensures.items (
      extends_more _ _ _ c.loop-rule.invariant.0,
      omega (arith, c.loop-rule.invariant.1, c.in-Ok-Bounded.ensures.shorter),
      appended _ _ _ _ _ _ _ _ c.loop-rule.invariant.2 (rw c.in-Ok-Bounded.field-0-is at c.in-Ok-Bounded.ensures.exact)
          c.in-Ok-Bounded.ensures.shorter,
    )
