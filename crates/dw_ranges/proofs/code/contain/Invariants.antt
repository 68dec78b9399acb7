use Rattle.std.proofs.Common.{ℕ, ◌<◌, get_or}
use Rattle.dw_ranges.specs.Areas.{IsCovered}
use Rattle.dw_ranges.specs.declared.range.Range.{Range}
use Rattle.dw_ranges.proofs.code.contain.Given as goal

abbrev pub invariant-loop-range : goal.invariant-loop-range
invariant-loop-range l = (k : ℕ) (d : Range) → k < l.range-index → IsCovered l.areas (get_or l.ranges k d)
