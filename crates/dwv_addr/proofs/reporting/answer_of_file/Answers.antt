use Rattle.dwv_addr.specs.Reports.{sound}
use Rattle.dwv_addr.proofs.reporting.answer_of_file.Goals as goal

pub returns-clause-answer : goal.returns-clause-answer
returns-clause-answer c =
    let answer = c.in_ok-answer.answer in
    let is = c.in-Ok-look_up.ensures.known c.args.bytes.now c.in-Ok.ensures.sources in
    sound c.in-Ok-look_up.known answer.status answer.text.items is
    (c.in_ok-answer.ensures is.functions_are.units is.functions_are.index)

pub returns-in-Err-look_up-clause-fault : goal.returns-in-Err-look_up-clause-fault
returns-in-Err-look_up-clause-fault c =
    c.in-Err-look_up.ensures.fault c.args.bytes.now c.in-Ok.ensures.sources
