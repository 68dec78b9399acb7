use Rattle.std.proofs.Common.{rules}
use Rattle.dw_types.proofs.RankLemmas.{length-ranks_listed, rank-here, rank-other}
use Rattle.dw_types.proofs.graph.Order.rank.Goals as goal
use Rattle.dw_types.proofs.graph.Order.rank.Goals.{then-get-node, else-get-node}

pub loop-place-preserved : goal.loop-place-preserved
loop-place-preserved c = search (rules, then-get-node, rank-here, else-get-node, rank-other, length-ranks_listed)
