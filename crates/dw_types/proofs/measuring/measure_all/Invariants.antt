use Rattle.std.proofs.Common.{◌≡◌, ◌<◌, ◌≤◌, ◌-◌, ◌+◌, true, length}
use Rattle.dw_types.specs.Held.{entries_held, units_held}
use Rattle.dw_types.specs.StepFlags.{is_leaf}
use Rattle.dw_types.proofs.SizeRankLemmas.{AreMeasured}
use Rattle.dw_types.proofs.measuring.measure_all.Given as goal

abbrev pub invariant-loop-leaf : goal.invariant-loop-leaf
invariant-loop-leaf l =
    (units_held l.entries ≡ units_held l.fn.entries)
    × (l.leaf ≤ length (entries_held l.fn.entries))
    × (l.rank ≤ length l.order.by_rank)
    × (l.leaf < length (entries_held l.fn.entries) → is_leaf (units_held l.fn.entries) l.leaf ≡ true)
    × AreMeasured (units_held l.fn.entries) l.order l.leaf l.rank l.sizes l.asked

abbrev pub decreases-loop-leaf : goal.decreases-loop-leaf
decreases-loop-leaf l = (length (entries_held l.fn.entries) - l.leaf) + (length l.order.by_rank - l.rank)
