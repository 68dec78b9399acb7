use Rattle.std.proofs.Common.{◌≡◌, map, take}
use Rattle.dw_ranges.proofs.CodeLemmas.{span_of}
use Rattle.dw_ranges.proofs.code.are_apart.Given as goal

abbrev pub invariant-loop-range : goal.invariant-loop-range
invariant-loop-range l = l.spans.items ≡ map span_of (take l.range-index l.ranges)
