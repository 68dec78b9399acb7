use Rattle.std.proofs.Common.{◌≡◌}
use Rattle.dw_types.specs.Walks.{KeepsRanks, KeepsTaken}
use Rattle.dw_types.proofs.HandLemmas.{IsAtHand, work_left}
use Rattle.dw_types.proofs.ordering.walk_on.Given as goal

abbrev pub invariant-loop-at : goal.invariant-loop-at
invariant-loop-at g l =
    IsAtHand (g.G.StepGraph.graph l.graph) l.walk l.at
    × KeepsTaken l.fn.walk.marks l.walk.marks
    × (l.walk.gave_up ≡ l.fn.walk.gave_up)
    × KeepsRanks l.fn.walk.by_rank l.walk.by_rank

abbrev pub decreases-loop-at : goal.decreases-loop-at
decreases-loop-at g l = work_left (g.G.StepGraph.graph l.graph) l.walk l.at
