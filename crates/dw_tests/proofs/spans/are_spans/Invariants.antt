use Rattle.std.proofs.Common.{ℕ, ◌-◌, ◌^◌, ◌<◌, get_or}
use Rattle.dw_ranges.specs.Spans.{IsSpan}
use Rattle.dw_ranges.specs.declared.spans.Span.{Span}
use Rattle.dw_tests.proofs.spans.are_spans.Given as goal

abbrev pub invariant-loop-span : goal.invariant-loop-span
invariant-loop-span l =
    (k : ℕ) (d : Span) → k < l.span-index
    → IsSpan (get_or l.spans k d) × ((get_or l.spans k d).function < 2 ^ 64 - 1)
