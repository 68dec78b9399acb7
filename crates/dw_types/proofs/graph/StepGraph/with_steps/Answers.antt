use Rattle.std.proofs.Common.{ℕ, Bool, length, nat_lt}
use Rattle.dw_types.specs.Graphs.{steps_of}
use Rattle.dw_types.specs.StoredFlags.{flag_at}
use Rattle.dw_types.proofs.FlagLemmas.{told-more, unset-more}
use Rattle.dw_types.proofs.graph.StepGraph.with_steps.Goals as goal

pub loop-node-preserved : goal.loop-node-preserved
loop-node-preserved g c =
    let graph = g.Self.StepGraph.graph c.args.self.now in
    let is : ℕ → Bool = λ k. nat_lt 0 (length (steps_of graph k)) in
    let set = rw c.steps.ensures at c.set_if.ensures.set in
    let old = flag_at c.loop-node.flags in
    let new = flag_at c.set_if.new.self in
    let told = c.loop-node.invariant.told in
    let unset = c.loop-node.invariant.unset in
    record {
      room = rw c.set_if.ensures.room c.loop-node.invariant.room;
      told = told-more old is new c.loop-node.node told unset set;
      unset = unset-more old is new c.loop-node.node told unset set;
    }
