use Rattle.std.proofs.Common.{[], drop}
use Rattle.dw_units.specs.BatchSections.{AreSizes, IsFoundUpTo}
use Rattle.dw_units.proofs.checking.check_batches.Given as goal

abbrev pub invariant-loop-k : goal.invariant-loop-k
invariant-loop-k l =
    IsFoundUpTo l.sections l.at l.so_far × AreSizes (drop l.k l.sizes.items) (drop l.at l.sections.info.now) []
