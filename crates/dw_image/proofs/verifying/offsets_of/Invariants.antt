use Rattle.std.proofs.Common.{◌≡◌, map, take}
use Rattle.dw_entries.specs.Views.{units_of}
use Rattle.dw_image.specs.FirstFault.{offset_at}
use Rattle.dw_image.proofs.verifying.offsets_of.Given as goal

abbrev pub invariant-loop-k : goal.invariant-loop-k
invariant-loop-k l = l.offsets.items ≡ map (offset_at (units_of l.entries)) (take l.k l.numbers)
