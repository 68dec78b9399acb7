use Rattle.std.proofs.Common.{length, ◌<◌, ◌≤◌, ◌-◌}
use Rattle.dw_units.proofs.batches.first_batch.Given as goal

abbrev pub invariant-loop-unit : goal.invariant-loop-unit
invariant-loop-unit l = (0 < l.size) × (l.size ≤ length l.info)

abbrev pub decreases-loop-unit : goal.decreases-loop-unit
decreases-loop-unit l = length l.info - l.size
