use Rattle.std.proofs.Common.{◌≡◌, slice_index, take}
use Rattle.dw_types.specs.RanksListed.{ranks_listed}
use Rattle.dw_types.proofs.graph.Order.rank.Given as goal

abbrev pub invariant-loop-place : goal.invariant-loop-place
invariant-loop-place l =
    l.rank ≡ slice_index (ranks_listed l.self-inside.nodes (take l.place l.self-inside.by_rank)) l.node
