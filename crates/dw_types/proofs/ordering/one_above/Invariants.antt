use Rattle.std.proofs.Common.{◌≡◌, ℕ, ◌+◌, ◌<◌, get_or}
use Rattle.std.specs.Prelude.{◌⊎◌}
use Rattle.dw_types.specs.Graphs.{step_at}
use Rattle.dw_types.proofs.ordering.one_above.Given as goal

abbrev pub invariant-loop-k : goal.invariant-loop-k
invariant-loop-k g l =
    ((k : ℕ) → k < l.k → get_or l.counts (step_at (g.G.StepGraph.graph l.graph) l.node k) 0 < l.most)
    × ((l.most ≡ 0) ⊎ ((k : ℕ) × (k < l.k)
    × (l.most ≡ get_or l.counts (step_at (g.G.StepGraph.graph l.graph) l.node k) 0 + 1)))
