use Rattle.std.proofs.Common.{subst}
use Rattle.dw_image.specs.Headline.{IsFaultOf, IsImageOf}
use Rattle.dw_report.specs.Reports.{SoundReport, sound}
use Rattle.dw_report.proofs.reporting.answer_of_sections.Goals as goal

pub returns-in-Check : goal.returns-in-Check
returns-in-Check c = rw c.in-Check.is c.answer_of_check.ensures

pub returns-in_ok-answer-in-Fault : goal.returns-in_ok-answer-in-Fault
returns-in_ok-answer-in-Fault c =
    let judged : IsFaultOf c.args.sections c.in-Fault.fault = rw c.in-Fault.is at c.in_ok-fault.ensures in
    c.in_ok-answer-in-Fault.ensures c.args.sections judged

pub returns-in_ok-answer-in-Sound : goal.returns-in_ok-answer-in-Sound
returns-in_ok-answer-in-Sound c =
    let judged : IsImageOf c.args.sections c.in-Sound.image = rw c.in-Sound.is at c.in_ok-fault.ensures in
    let answer = c.in_ok-answer-in-Sound.answer in
    sound answer.status answer.text.items
    (subst (λ s. SoundReport s c.args.request answer.status answer.text.items) judged.sections
    c.in_ok-answer-in-Sound.ensures)
