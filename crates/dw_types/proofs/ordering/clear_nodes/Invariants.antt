use Rattle.std.proofs.Common.{◌≡◌, ◌≢◌, ℕ, ◌<◌, ◌-◌, []}
use Rattle.dw_types.specs.declared.walk.Mark.TheVariants.{Fresh}
use Rattle.dw_types.specs.Walks.{HasLeaves, IsKept}
use Rattle.dw_types.specs.WalkStates.{mark_in}
use Rattle.dw_types.proofs.ordering.clear_nodes.Given as goal

abbrev pub invariant-loop-node : goal.invariant-loop-node
invariant-loop-node g l = record {
  kept : IsKept (g.G.StepGraph.graph l.graph) l.walk;
  empty : l.walk.stack ≡ [];
  taken : (node : ℕ) → node < l.node → mark_in l.walk.marks node ≢ Fresh;
  others : HasLeaves (g.G.StepGraph.graph l.graph) l.walk.marks;
}

abbrev pub decreases-loop-node : goal.decreases-loop-node
decreases-loop-node g l = l.nodes - l.node
