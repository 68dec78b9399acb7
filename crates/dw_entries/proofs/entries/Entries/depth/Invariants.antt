use Rattle.dw_entries.specs.Views.{units_of, entries_of}
use Rattle.dw_entries.proofs.DepthLaws.{Climbs, height}
use Rattle.dw_entries.proofs.entries.Entries.depth.Given as goal

abbrev pub invariant-loop-above : goal.invariant-loop-above
invariant-loop-above l = Climbs (entries_of (units_of l.self)) l.fn.id l.depth l.above

abbrev pub decreases-loop-above : goal.decreases-loop-above
decreases-loop-above l = height l.above
