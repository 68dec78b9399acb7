use Rattle.std.proofs.Common.{ap, ◌∙◌, arith}
use Rattle.dw_cprint.specs.Shapes.{view_shape}
use Rattle.dw_cprint.specs.Summaries.{Summary, known_of}
use Rattle.dw_cprint.proofs.SummaryLemmas.{base_qualified, base_itself, base_plain}
use Rattle.dw_cprint.proofs.FoundLemmas.{same-summary}
use Rattle.dw_cprint.proofs.summary.base_of.Goals as goal

pub returns-in-Qualified : goal.returns-in-Qualified
returns-in-Qualified c = record {
  same = rw c.in-Qualified.is (ap (λ (known : Summary). known.base) c.known.ensures);
  under = λ shapes entry is known.
      let one = rw c.in-Qualified.is at known in
      let mine = same-summary c.known.ensures (one 0 c.in-Qualified.at (omega arith)) in
      base_qualified shapes entry _ c.in-Qualified.at c.known.result.base (is ∙ ap view_shape c.in-Qualified.is)
      mine.is_base;
}

pub returns-in_default : goal.returns-in_default
returns-in_default c = record {
  same = c.kind_of.ensures ∙ base_plain (known_of c.args.survey.now) c.args.shape.now c.in_default.not-Qualified;
  under =
      λ shapes entry is known. base_itself shapes entry c.args.shape.now c.kind_of.result is c.in_default.not-Qualified
      c.kind_of.ensures;
}
