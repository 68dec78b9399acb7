use Rattle.std.proofs.Common.{length, ◌≤◌}
use Rattle.dw_units.proofs.batches.pass_attributes.Given as goal

abbrev pub invariant-loop-form : goal.invariant-loop-form
invariant-loop-form l = length l.bytes.now ≤ length l.initial.bytes.now

abbrev pub decreases-loop-form : goal.decreases-loop-form
decreases-loop-form l = length l.bytes.now
