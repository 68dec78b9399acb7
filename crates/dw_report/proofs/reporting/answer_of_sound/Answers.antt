use Rattle.dw_report.proofs.ReportLemmas.{counts_report, show_report, size_report}
use Rattle.dw_report.proofs.reporting.answer_of_sound.Goals as goal

pub returns-in_ok-text-in-Check : goal.returns-in_ok-text-in-Check
returns-in_ok-text-in-Check c =
    counts_report _ c.args.request c.in-Check.json c.of.result _ c.in-Check.is c.in_ok-text-in-Check.ensures
    c.of.ensures.counts

pub returns-in_ok-text-in-Show : goal.returns-in_ok-text-in-Show
returns-in_ok-text-in-Show c = show_report c.args.image.now c.args.request _ c.in-Show.is c.in_ok-text-in-Show.ensures

pub returns-in_ok-answer-in-Size : goal.returns-in_ok-answer-in-Size
returns-in_ok-answer-in-Size c =
    size_report c.args.image.now c.args.request c.in-Size.offset _ _ c.in-Size.is
    c.in_ok-answer-in-Size.ensures.text c.in_ok-answer-in-Size.ensures.status
