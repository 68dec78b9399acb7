use Rattle.std.proofs.Common.{length, ◌≤◌}
use Rattle.dw_ranges.specs.RangeLists.{list_after}
use Rattle.dw_ranges.proofs.ListSteps.{Extends, GoesOn}
use Rattle.dw_ranges.proofs.list.append_ranges.Given as goal

abbrev pub invariant-loop-rule : goal.invariant-loop-rule
invariant-loop-rule l =
    Extends l.initial.ranges.items l.ranges.items × (length l.bytes ≤ length l.section)
    × GoesOn l.unit l.section l.ranges.items l.base l.bytes
    (list_after l.initial.ranges.items l.unit l.section l.offset)

abbrev pub decreases-loop-rule : goal.decreases-loop-rule
decreases-loop-rule l = length l.bytes
