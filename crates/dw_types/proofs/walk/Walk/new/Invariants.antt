use Rattle.std.proofs.Common.{◌≡◌, ◌≤◌, length, min, vec_capacity, ◌-◌}
use Rattle.dw_types.specs.Graphs.{AreFirsts}
use Rattle.dw_types.proofs.EndLemmas.{HasBegun}
use Rattle.dw_types.proofs.walk.Walk.new.Given as goal

abbrev pub invariant-loop-from : goal.invariant-loop-from
invariant-loop-from g l = record {
  firsts : AreFirsts (g.G.StepGraph.graph l.graph) l.firsts.items;
  long : length l.firsts.items ≡ l.small;
  marks : length l.marks.items ≡ l.nodes;
  room : l.small ≤ vec_capacity l.leaves;
  few : length l.leaves.items ≤ l.from;
  begun : HasBegun (g.G.StepGraph.graph l.graph) l.marks.items l.leaves.items (min l.from l.small);
}

abbrev pub invariant-loop-leaf : goal.invariant-loop-leaf
invariant-loop-leaf g l = record {
  marks : length l.marks.items ≡ l.nodes;
  room : l.small ≤ vec_capacity l.leaves;
  few : length l.leaves.items ≤ l.leaf;
  begun : HasBegun (g.G.StepGraph.graph l.graph) l.marks.items l.leaves.items l.leaf;
}

abbrev pub decreases-loop-from : goal.decreases-loop-from
decreases-loop-from g l = l.small - l.from

abbrev pub invariant-loop-large : goal.invariant-loop-large
invariant-loop-large g l = record {
  marks : length l.marks.items ≡ l.nodes;
  begun : HasBegun (g.G.StepGraph.graph l.graph) l.marks.items l.by_rank l.large;
}
