use Rattle.std.proofs.Common.{rules, ℕ, ◌<◌, ◌≤◌, length, get_or, arith, ap, ◌∙◌, length-set}
use Rattle.std.proofs.lemmas.List.{length-replicate}
use Rattle.dw_types.specs.LongestRows.{IsOneMore}
use Rattle.dw_types.proofs.LongestLemmas.{few-more, known-more, known-all}
use Rattle.dw_types.proofs.EndLemmas.{get_or-same}
use Rattle.dw_types.specs.Graphs.{step_at}
use Rattle.dw_types.proofs.ordering.longest_rows.Goals as goal

pub loop-rank-init : goal.loop-rank-init
loop-rank-init g c = (
  ap length c.in_ok-counts.ensures
      ∙ (length-replicate c.nodes.result 0 ∙ c.nodes.ensures),
  λ k w. absurd (omega arith),
  λ n. rw
      (c.in_ok-counts.ensures, get_or-same {X = ℕ} c.nodes.result n 0) (omega arith),
)

pub one_above-most-requires-clause-node : goal.one_above-most-requires-clause-node
one_above-most-requires-clause-node g c = search rules

pub one_above-most-requires-clause-fits : goal.one_above-most-requires-clause-fits
one_above-most-requires-clause-fits g c =
    λ k within.
    omega (
      arith,
      c.loop-rank.invariant.2 (step_at (g.G.StepGraph.graph c.args.graph.now) c.get-node.result k),
      c.loop-rank-test.true,
      c.len-rank-end.type_inv,
    )

pub set-requires : goal.set-requires
set-requires g c = search rules

pub loop-rank-preserved : goal.loop-rank-preserved
loop-rank-preserved g c =
    let graph = g.G.StepGraph.graph c.args.graph.now in
    let clear = c.args.clear.now in
    let counts = c.loop-rank.counts in
    let rank = c.loop-rank.rank in
    let count = c.one_above-most.result in
    let below : rank < length clear = rw (← c.len-rank-end.ensures) c.loop-rank-test.true in
    let above : IsOneMore graph counts (get_or clear rank 0) count = rw c.get-node.ensures at c.one_above-most.ensures
    in
    rw (c.in_ok-set.ensures, c.get-node.ensures) (
      length-set counts (get_or clear rank 0) count ∙ c.loop-rank.invariant.0,
      known-more graph clear c.requires counts rank count c.loop-rank.invariant.0 below c.loop-rank.invariant.1 above,
      few-more graph clear c.requires counts rank count c.loop-rank.invariant.0 below c.loop-rank.invariant.2 above,
    )

pub returns : goal.returns
returns g c =
    let graph = g.G.StepGraph.graph c.args.graph.now in
    let over : length c.args.clear.now
    ≤ c.loop-rank.rank = rw (← c.len-rank-end.ensures) c.loop-rank-test.false in
    known-all graph c.args.clear.now c.requires c.loop-rank.counts c.loop-rank.rank over c.loop-rank.invariant.1
