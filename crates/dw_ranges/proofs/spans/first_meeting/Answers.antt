use Rattle.std.proofs.Common.{◌-◌, get_or, refl, subst, arith}
use Rattle.std.proofs.lemmas.List.{get_or_default}
use Rattle.dw_ranges.specs.Spans.{IsBefore}
use Rattle.dw_ranges.specs.declared.spans.Span.{Span}
use Rattle.dw_ranges.proofs.SpanLemmas.{before_more, no_span}
use Rattle.dw_ranges.proofs.spans.first_meeting.Goals as goal

pub loop-k-preserved : goal.loop-k-preserved
loop-k-preserved c =
    let xs = c.args.spans.now in
    let k = c.loop-k.k in
    before_more xs k c.requires.each (omega arith) (omega arith) c.loop-k.invariant (λ d.
    subst (IsBefore (get_or xs (k - 1) d)) (get_or_default xs k no_span d (omega arith))
    (subst (λ (s : Span). IsBefore s (get_or xs k no_span)) (get_or_default xs (k - 1) no_span d (omega arith))
    (c.if-not-agrees.ensures.0 refl)))
