use Rattle.std.proofs.Common.{◌≡◌, Some, sym, ◌∙◌}
use Rattle.dw_report.specs.Reports.{Report, file_limit}
use Rattle.dwv_c.specs.Texts.{request_of, whole, short, memory, unknown}
use Rattle.dwv_c.proofs.exports.dwv_report.Goals as goal

pub returns-in_default : goal.returns-in_default
returns-in_default c = unknown (sym c.request_numbered.ensures ∙ c.in_default.is)

pub returns-then-text-buffer : goal.returns-then-text-buffer
returns-then-text-buffer c =
    let answer = c.in-Ok.answer in
    let asked : request_of c.args.request c.args.offset ≡ Some c.in-Some.request =
    sym c.request_numbered.ensures ∙ c.in-Some.is in
    let told : Report file_limit c.in-Some.request c.args.file.now answer.status answer.text.items =
    rw c.longest_file.ensures at c.in-Ok.ensures in
    rw c.as_slice-text.ensures.value
    (short _ _ _ asked told (rw c.as_slice-text.ensures.value at c.if-text-buffer.true))

pub returns-else-text-buffer : goal.returns-else-text-buffer
returns-else-text-buffer c =
    let answer = c.in-Ok.answer in
    let asked : request_of c.args.request c.args.offset ≡ Some c.in-Some.request =
    sym c.request_numbered.ensures ∙ c.in-Some.is in
    let told : Report file_limit c.in-Some.request c.args.file.now answer.status answer.text.items =
    rw c.longest_file.ensures at c.in-Ok.ensures in
    rw (c.number_of.ensures, c.put_over.ensures, c.as_slice-text.ensures.value)
    (whole _ _ _ asked told (rw c.as_slice-text.ensures.value at c.if-text-buffer.false))

pub returns-in-Err : goal.returns-in-Err
returns-in-Err c = memory
