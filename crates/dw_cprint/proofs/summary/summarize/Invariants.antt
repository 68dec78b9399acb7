use Rattle.std.proofs.Common.{◌≡◌, ℕ, List, length, take}
use Rattle.dw_cprint.specs.Shapes.{ShapeOf}
use Rattle.dw_cprint.specs.Summaries.{AreNodes, HaveSummaries}
use Rattle.dw_cprint.proofs.SummaryLemmas.{RightBefore}
use Rattle.dw_cprint.proofs.summary.summarize.Given as goal

abbrev pub invariant-loop-rank : goal.invariant-loop-rank
invariant-loop-rank l = record {
  places : l.survey.places.items ≡ l.fn.survey.places.items;
  shapes : l.survey.shapes.items ≡ l.fn.survey.shapes.items;
  len : length l.survey.summaries.items ≡ length l.fn.survey.shapes.items;
  have : HaveSummaries (take l.rank l.clear) l.survey.summaries.items;
  right : (all : ℕ → ShapeOf) (found : List ℕ)
      → AreNodes all l.fn.survey.places.items found l.fn.survey.shapes.items l.clear
      → RightBefore all found l.clear l.fn.survey.places.items l.survey.summaries.items l.rank;
}
