use Rattle.std.proofs.Common.{refl}
use Rattle.dw_image.specs.Headline.{IsFaultOf}
use Rattle.dw_units.specs.Counts.{AreCounts}
use Rattle.dw_report.specs.declared.request.Status.TheVariants.{Sound}
use Rattle.dw_report.specs.Reports.{sound}
use Rattle.dw_report.proofs.ReportLemmas.{counts_report}
use Rattle.dw_report.proofs.reporting.answer_of_check.Goals as goal

pub returns-in_ok-answer-in-Fault : goal.returns-in_ok-answer-in-Fault
returns-in_ok-answer-in-Fault c =
    let found : IsFaultOf c.args.sections c.in-Fault.fault = rw c.in-Fault.is at c.in_ok-fault.ensures in
    c.in_ok-answer-in-Fault.ensures c.args.sections found

pub returns-in_ok-text-in-Sound : goal.returns-in_ok-text-in-Sound
returns-in_ok-text-in-Sound c =
    let counts : AreCounts c.args.sections c.in-Sound.counts = rw c.in-Sound.is at c.in_ok-fault.ensures in
    sound Sound _ (counts_report c.args.sections _ c.args.json c.in-Sound.counts _ refl
    c.in_ok-text-in-Sound.ensures counts)
