use Rattle.std.proofs.Common.{◌≡◌, ◌≢◌, ℕ, ◌<◌, ◌-◌, [], false}
use Rattle.dw_types.specs.declared.walk.Mark.TheVariants.{Fresh}
use Rattle.dw_types.specs.Orders.{AreLeaves}
use Rattle.dw_types.specs.Walks.{HasLeaves, IsKept}
use Rattle.dw_types.specs.WalkStates.{mark_in}
use Rattle.dw_types.proofs.ordering.order.Given as goal

abbrev pub invariant-loop-start : goal.invariant-loop-start
invariant-loop-start g l = record {
  kept : IsKept (g.G.StepGraph.graph l.graph) l.walk;
  empty : l.walk.stack ≡ [];
  taken : (node : ℕ) → node < l.start → mark_in l.walk.marks node ≢ Fresh;
  others : HasLeaves (g.G.StepGraph.graph l.graph) l.walk.marks;
  first : AreLeaves (g.G.StepGraph.graph l.graph) l.walk.by_rank l.leaves;
  gave_up : l.walk.gave_up ≡ false;
}

abbrev pub decreases-loop-start : goal.decreases-loop-start
decreases-loop-start g l = l.nodes - l.start
