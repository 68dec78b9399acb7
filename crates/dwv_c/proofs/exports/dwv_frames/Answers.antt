use Rattle.std.proofs.Common.{◌<◌, ◌≤◌, length, sym, subst}
use Rattle.dw_lookup.specs.declared.first_fault.FirstFault.TheVariants.{File}
use Rattle.dw_report.specs.Reports.{too_large}
use Rattle.dwv_c.specs.Frames.{PutsFrames, fault, frame_arrays, past_limit}
use Rattle.dwv_c.specs.Verdicts.{FAULT}
use Rattle.dwv_c.proofs.FrameLemmas.{puts_stop}
use Rattle.dwv_c.proofs.exports.dwv_frames.Goals as goal

pub returns-then-file-longest_file : goal.returns-then-file-longest_file
returns-then-file-longest_file c =
    let old = frame_arrays c.args.located.now c.args.frames.now c.args.text.now in
    subst (λ v. PutsFrames c.args.file.now c.args.addresses.now old c.args.counts.now c.args.verdict.now FAULT old
    c.args.counts.now v) (sym c.verdict_of_large.ensures)
    (fault (File too_large)
    (past_limit (subst (λ n. n < length c.args.file.now) c.longest_file.ensures c.if-file-longest_file.true)))

pub returns-in-Err : goal.returns-in-Err
returns-in-Err c =
    let within = subst (λ n. length c.args.file.now ≤ n) c.longest_file.ensures c.if-file-longest_file.false in
    puts_stop c.args.file.now c.args.addresses.now (frame_arrays c.args.located.now c.args.frames.now c.args.text.now)
    c.args.counts.now c.args.verdict.now c.put_stop.new.verdict c.in-Err.stop c.put_stop.result within
    c.in-Err.ensures.fault c.put_stop.ensures.status c.put_stop.ensures.verdict

pub returns-in-Ok-look_up : goal.returns-in-Ok-look_up
returns-in-Ok-look_up c =
    let file = c.args.file.now in
    let within = subst (λ n. length file ≤ n) c.longest_file.ensures c.if-file-longest_file.false in
    c.put_known.ensures file within (c.in-Ok-look_up.ensures.known file c.in-Ok.ensures.sources)

pub returns : goal.returns
returns c =
    let file = c.args.file.now in
    let within = subst (λ n. length file ≤ n) c.longest_file.ensures c.if-file-longest_file.false in
    puts_stop file c.args.addresses.now (frame_arrays c.args.located.now c.args.frames.now c.args.text.now)
    c.args.counts.now c.args.verdict.now c.put_stop-in-Err-look_up.new.verdict c.in-Err-look_up.stop
    c.put_stop-in-Err-look_up.result within (c.in-Err-look_up.ensures.fault file c.in-Ok.ensures.sources)
    c.put_stop-in-Err-look_up.ensures.status c.put_stop-in-Err-look_up.ensures.verdict
