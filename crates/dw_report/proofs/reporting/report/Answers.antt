use Rattle.std.proofs.Common.{sym, subst}
use Rattle.dw_report.specs.declared.request.Status.TheVariants.{Fault}
use Rattle.dw_report.specs.Reports.{Report, large, fails, of_sections}
use Rattle.dw_report.proofs.reporting.report.Goals as goal

pub returns-then-bytes-limit : goal.returns-then-bytes-limit
returns-then-bytes-limit c =
    subst (λ t. Report c.args.limit c.args.request c.args.bytes.now Fault t) (sym c.in_ok-text.ensures)
    (large c.if-bytes-limit.true)

pub returns-in-Err : goal.returns-in-Err
returns-in-Err c =
    subst (λ t. Report c.args.limit c.args.request c.args.bytes.now Fault t) (sym c.in_ok-text-in-Err.ensures)
    (fails c.in-Err.fault c.if-bytes-limit.false c.in-Err.ensures.fault)

pub returns : goal.returns
returns c =
    let answer = c.in_ok-answer.answer in
    of_sections c.in-Ok.sections answer.status answer.text.items c.if-bytes-limit.false c.in-Ok.ensures.passes
    c.in-Ok.ensures.sections
    c.in_ok-answer.ensures
