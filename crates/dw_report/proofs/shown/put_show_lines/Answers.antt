use Rattle.std.proofs.Common.{ap, ◌∙◌, ◌++◌, arith}
use Rattle.std.proofs.Math.Seq.{take_all}
use Rattle.std.proofs.lemmas.List.FromFn.{length-enumerate_from}
use Rattle.std.specs.List.{enumerate_from, flat_map}
use Rattle.dw_image.specs.Images.{entries_in}
use Rattle.dw_report.specs.Shown.{entry_line, show_lines}
use Rattle.dw_report.proofs.ShownLemmas.{one_more_line}
use Rattle.dw_report.proofs.shown.put_show_lines.Goals as goal

pub loop-number-preserved : goal.loop-number-preserved
loop-number-preserved c =
    let within = c.loop-number-test.true in
    let count = c.entries-number-end.ensures in
    one_more_line (entry_line c.args.image.now) (entries_in c.args.image.now) c.loop-number.number c.args.text.now.items
    c.loop-number.text.items
    c.put_numbered_line.new.text.items (omega (arith, within, count)) c.in_ok-put_numbered_line.ensures.ok
    c.loop-number.invariant

pub returns : goal.returns
unfolding show_lines
returns c =
    let past = c.loop-number-test.false in
    let count = c.entries-number-end.ensures in
    let long = length-enumerate_from 0 (entries_in c.args.image.now) in
    record {
      ok = c.loop-number.invariant ∙ ap (λ ps. c.args.text.now.items ++ flat_map (entry_line c.args.image.now) ps)
          (take_all c.loop-number.number (enumerate_from 0 (entries_in c.args.image.now))
          (omega (arith, past, count, long)));
    }
