use Rattle.std.proofs.Common.{rules}
use Rattle.dw_entries.proofs.NullLaws.{nulls_next, null_shorter}
use Rattle.dw_entries.proofs.tree.behind_nulls.Goals as goal

pub loop-rest-preserved : goal.loop-rest-preserved
loop-rest-preserved c = search (rules, nulls_next)

pub loop-rest-smaller : goal.loop-rest-smaller
loop-rest-smaller c = search (rules, null_shorter)
