use Rattle.std.proofs.Common.{◌≡◌, ◌++◌, map, take}
use Rattle.dw_ranges.specs.Functions.{span_in}
use Rattle.dw_ranges.proofs.functions.push_spans.Given as goal

abbrev pub invariant-loop-area : goal.invariant-loop-area
invariant-loop-area l =
    l.spans.items ≡ l.initial.spans.items ++ map (span_in l.group l.function) (take l.area-index l.areas)
