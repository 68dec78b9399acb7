use Rattle.std.proofs.Common.{rules, refl, sym, ap, ◌∙◌, arith, Some, None, Ok}
use Rattle.dw_lines.specs.Machine.{Turn}
use Rattle.dw_lines.proofs.RunSteps.{run_done, run_fails, run_on, rest_shorter}
use Rattle.dw_lines.proofs.rows.Rows.next.Goals as goal

pub loop-code-smaller : goal.loop-code-smaller
loop-code-smaller c =
    let turn = rw c.in-Ok-false.field-0-test at c.in-Ok-false.ensures in
    let m = c.loop-code.self in
    let short = rest_shorter m.header.now 0 m.registers m.last m.rest.now c.in-Some.code.now c.in-Some.bytes.now
    (search rules) _ turn.0 in
    omega (arith, short)

pub loop-code-preserved : goal.loop-code-preserved
loop-code-preserved c =
    let turn = rw c.in-Ok-false.field-0-test at c.in-Ok-false.ensures in
    rw (turn.1, turn.2) (c.loop-code.invariant
    ∙ run_on _ _ _ _ _ c.in-Some.code.now c.in-Some.bytes.now (search rules) _ turn.0 None refl)

pub returns-in-Ok-true : goal.returns-in-Ok-true
returns-in-Ok-true c =
    let turn = rw c.in-Ok-true.field-0-test at c.in-Ok-true.ensures in
    let took = c.take_row.ensures in
    rw (took.header, took.end, turn.1, turn.2) (c.loop-code.invariant
    ∙ run_on _ _ _ _ _ c.in-Some.code.now c.in-Some.bytes.now (search rules) _
    (turn.0 ∙ ap (λ (t : Turn). Ok t) took.row) (Some _) refl)

pub returns-in-Err : goal.returns-in-Err
returns-in-Err c =
    rw (c.saturating_sub-at.ensures, c.in-Err.ensures.1) (
      c.loop-code.invariant
          ∙ run_fails _ _ _ _ _ c.in-Some.code.now c.in-Some.bytes.now (search rules) _ c.in-Err.ensures.0,
      sym c.loop-code.invariant,
    )

pub returns-in_default-last : goal.returns-in_default-last
returns-in_default-last c =
    let done = run_done _ _ _ _ _ _ c.in_default.ensures.cases c.in_default-last.is in
    (c.loop-code.invariant ∙ done, done)

pub returns : goal.returns
returns c = (
  c.loop-code.invariant ∙ run_done _ _ _ _ _ _ c.in_default.ensures.cases c.in-Some-last.is,
  sym c.loop-code.invariant,
)
