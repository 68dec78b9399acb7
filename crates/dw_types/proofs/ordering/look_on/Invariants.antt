use Rattle.dw_types.specs.Walks.{GoToRanked}
use Rattle.dw_types.proofs.ordering.look_on.Given as goal

abbrev pub invariant-loop-k : goal.invariant-loop-k
invariant-loop-k g l = GoToRanked (g.G.StepGraph.graph l.graph) l.walk.marks l.node l.from l.k
