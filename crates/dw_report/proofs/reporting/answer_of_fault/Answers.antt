use Rattle.dw_report.proofs.ReportLemmas.{fault_report}
use Rattle.dw_report.proofs.reporting.answer_of_fault.Goals as goal

pub returns : goal.returns
returns c = λ s. fault_report s c.args.request c.args.fault.now _ c.in_ok-text.ensures
