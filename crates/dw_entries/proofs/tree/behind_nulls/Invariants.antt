use Rattle.std.proofs.Common.{length}
use Rattle.dw_entries.proofs.NullLaws.{NullsTo}
use Rattle.dw_entries.proofs.tree.behind_nulls.Given as goal

abbrev pub invariant-loop-rest : goal.invariant-loop-rest
invariant-loop-rest l = NullsTo l.bytes l.rest

abbrev pub decreases-loop-rest : goal.decreases-loop-rest
decreases-loop-rest l = length l.rest
