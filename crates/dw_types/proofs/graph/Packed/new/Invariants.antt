use Rattle.std.proofs.Common.{◌≡◌, ◌++◌, take}
use Rattle.dw_types.specs.Graphs.{steps_of}
use Rattle.dw_types.specs.Packing.{LeadsBelow}
use Rattle.dw_types.proofs.PackingLemmas.{PacksUpTo}
use Rattle.dw_types.proofs.graph.Packed.new.Given as goal

abbrev pub invariant-loop-k : goal.invariant-loop-k
invariant-loop-k g l =
    (l.steps ≡ l.initial.steps ++ take l.k (steps_of (g.G.StepGraph.graph l.graph) l.node)) × LeadsBelow l.steps l.nodes

abbrev pub invariant-loop-node : goal.invariant-loop-node
invariant-loop-node g l = PacksUpTo (g.G.StepGraph.graph l.graph) l.steps l.ends l.node × LeadsBelow l.steps l.nodes
