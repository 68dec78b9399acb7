use Rattle.std.proofs.Common.{◌≡◌, ◌≤◌, ◌-◌, length}
use Rattle.dw_types.specs.Held.{entries_held, units_held}
use Rattle.dw_types.specs.SizeFaults.{fails_size}
use Rattle.dw_types.specs.SizeTables.{size_at}
use Rattle.dw_types.specs.TypeFailures.{NoneFailsBefore}
use Rattle.dw_types.proofs.size_rules.first_broken.Given as goal

abbrev pub invariant-loop-node : goal.invariant-loop-node
invariant-loop-node l =
    (units_held l.entries ≡ units_held l.fn.entries)
    × (l.node ≤ length (entries_held l.fn.entries))
    × NoneFailsBefore (fails_size (units_held l.fn.entries) (size_at l.sizes)) l.node

abbrev pub decreases-loop-node : goal.decreases-loop-node
decreases-loop-node l = length (entries_held l.fn.entries) - l.node
