use Rattle.std.proofs.Common.{rules, ap, ◌∙◌}
use Rattle.dwv_addr.specs.Faults.{first_fault_text}
use Rattle.dwv_addr.specs.Reports.{within}
use Rattle.dwv_addr.specs.Requests.{writes_json}
use Rattle.dwv_addr.proofs.ReportLemmas.{fault_report, large_report}
use Rattle.dwv_addr.proofs.reporting.report.Goals as goal

pub returns-then-bytes-limit : goal.returns-then-bytes-limit
returns-then-bytes-limit c =
    large_report c.args.limit c.args.bytes.now c.args.request c.args.asked.now c.in_ok-answer.answer.status
    c.in_ok-answer.answer.text.items c.if-bytes-limit.true c.in_ok-answer.ensures.status
    (c.in_ok-answer.ensures.text ∙ ap (first_fault_text (writes_json c.args.request)) c.fault_of_size.ensures)

pub returns-in-Ok : goal.returns-in-Ok
returns-in-Ok c =
    within c.in-Ok.answer.status c.in-Ok.answer.text.items c.if-bytes-limit.false c.in-Ok.ensures.answer

pub returns-in_ok-answer-in-Err-Fault : goal.returns-in_ok-answer-in-Err-Fault
returns-in_ok-answer-in-Err-Fault c =
    let answer = c.in_ok-answer-in-Err-Fault.answer in
    let is = c.in_ok-answer-in-Err-Fault.ensures in
    within answer.status answer.text.items c.if-bytes-limit.false
    (fault_report c.args.bytes.now c.args.request c.args.asked.now _ answer.status answer.text.items is.status is.text
    (search rules))
