use Rattle.std.proofs.Common.{◌≡◌, length}
use Rattle.dw_types.proofs.LongestLemmas.{AreFew, KnownUpTo}
use Rattle.dw_types.proofs.ordering.longest_rows.Given as goal

abbrev pub invariant-loop-rank : goal.invariant-loop-rank
invariant-loop-rank g l =
    (length l.counts ≡ length (g.G.StepGraph.graph l.graph))
    × KnownUpTo (g.G.StepGraph.graph l.graph) l.clear l.counts l.rank × AreFew l.counts l.rank
