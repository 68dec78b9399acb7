use Rattle.std.proofs.Common.{◌≡◌, ◌++◌, map, take}
use Rattle.dw_ranges.specs.UnitRanges.{range_of}
use Rattle.dw_ranges.proofs.file.push_areas.Given as goal

abbrev pub invariant-loop-area : goal.invariant-loop-area
invariant-loop-area l = l.all.items ≡ l.initial.all.items ++ map (range_of l.unit) (take l.area-index l.areas)
