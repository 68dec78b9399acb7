use Rattle.std.proofs.Common.{ℕ, take}
use Rattle.std.specs.Prelude.{All}
use Rattle.dw_cprint.specs.Shapes.{ShapeOf}
use Rattle.dw_cprint.specs.Summaries.{KnowsType, AreFindings}
use Rattle.dw_cprint.proofs.summary.findings_under.Given as goal

abbrev pub invariant-loop-at : goal.invariant-loop-at
invariant-loop-at l =
    (shapes : ℕ → ShapeOf) → All (KnowsType shapes l.survey) l.types
    → AreFindings shapes (take l.at-index l.types) l.findings
