use Rattle.std.proofs.Common.{◌≡◌, map, take}
use Rattle.dw_lookup.specs.Parts.{pair_of}
use Rattle.dw_lookup.proofs.parts.pairs_of.Given as goal

abbrev pub invariant-loop-area : goal.invariant-loop-area
invariant-loop-area l = l.pairs.items ≡ map pair_of (take l.area-index l.areas)
