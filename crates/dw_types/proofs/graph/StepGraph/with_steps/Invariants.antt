use Rattle.std.proofs.Common.{◌≡◌, ◌<◌, ◌≤◌, ℕ, false, length, nat_lt}
use Rattle.dw_types.specs.Graphs.{steps_of}
use Rattle.dw_types.specs.StoredFlags.{flag_at, flag_count}
use Rattle.dw_types.proofs.graph.StepGraph.with_steps.Given as goal

abbrev pub invariant-loop-node : goal.invariant-loop-node
invariant-loop-node g l = record {
  room : length (g.Self.StepGraph.graph l.self) < flag_count l.flags;
  told : (k : ℕ) → k < l.node → flag_at l.flags k ≡ nat_lt 0 (length (steps_of (g.Self.StepGraph.graph l.self) k));
  unset : (k : ℕ) → l.node ≤ k → flag_at l.flags k ≡ false;
}
