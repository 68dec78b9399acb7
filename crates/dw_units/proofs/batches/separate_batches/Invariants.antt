use Rattle.std.proofs.Common.{length, drop, ◌<◌, ◌≤◌, IfSome}
use Rattle.dw_units.specs.BatchSections.{AreSizes}
use Rattle.dw_units.proofs.batches.separate_batches.Given as goal

abbrev pub invariant-loop-next : goal.invariant-loop-next
invariant-loop-next l = AreSizes l.sizes.items (drop l.sections.base l.sections.info.now) l.rest
    × IfSome l.next (λ unit. (0 < unit.size) × (unit.size ≤ length l.rest))

abbrev pub decreases-loop-next : goal.decreases-loop-next
decreases-loop-next l = length l.rest
