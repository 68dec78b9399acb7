use Rattle.std.proofs.Common.{arith}
use Rattle.dw_cprint.specs.Shapes.{view_subject}
use Rattle.dw_cprint.proofs.FoundLemmas.{found-subject}
use Rattle.dw_cprint.proofs.summary.findings_of.Goals as goal

pub returns : goal.returns
returns c = λ shapes known.
    let s = c.args.survey.now in
    let own = c.wrong_in_subject.ensures in
    found-subject shapes s (view_subject c.args.subject.now) c.wrong_in_subject.result c.findings_under.result
    c.with.result (rw c.requires at known) own (rw c.requires at (c.findings_under.ensures shapes known))
    c.with.ensures.either (omega (arith, own.shallow, c.with.ensures.depth))
