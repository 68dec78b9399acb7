use Rattle.std.proofs.Common.{◌-◌, ◌^◌, ◌<◌, get_or, refl, subst, arith, below_more}
use Rattle.std.proofs.lemmas.List.{get_or_default}
use Rattle.dw_ranges.specs.Spans.{IsSpan}
use Rattle.dw_ranges.specs.declared.spans.Span.{Span}
use Rattle.dw_tests.proofs.spans.are_spans.Goals as goal

pub loop-span-preserved : goal.loop-span-preserved
loop-span-preserved c k d =
    let xs = c.args.spans.now in
    let i = c.loop-span.span-index in
    let none : Span = record { group = 0; low = 0; high = 0; function = 0 } in
    let P : Span → Type 0 = λ s. IsSpan s × (s.function < 2 ^ 64 - 1) in
    below_more (λ j. P (get_or xs j d)) i (λ j lt. c.loop-span.invariant j d lt)
    (subst P (get_or_default xs i none d (omega arith)) (c.if-not-is_span.ensures refl)) k

pub returns-clause-each : goal.returns-clause-each
returns-clause-each c = λ e k d in'. (c.loop-span.invariant k d (omega arith)).0

pub returns-clause-few : goal.returns-clause-few
returns-clause-few c = λ e k d in'. (c.loop-span.invariant k d (omega arith)).1
