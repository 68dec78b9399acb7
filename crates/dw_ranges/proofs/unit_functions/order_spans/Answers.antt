use Rattle.std.proofs.Common.{ℕ, ◌<◌, length, sym, subst}
use Rattle.std.proofs.lemmas.List.Sorted.{All-permutation}
use Rattle.dw_entries.specs.Views.{all_entries}
use Rattle.dw_ranges.specs.declared.spans.Span.{Span}
use Rattle.dw_ranges.proofs.SpanLemmas.{no_span}
use Rattle.dw_ranges.proofs.unit_functions.order_spans.Goals as goal

pub id-requires : goal.id-requires
id-requires c =
    All-permutation (λ (s : Span). s.function < length (all_entries c.args.entries.now)) c.args.spans.now
    c.order.new.spans c.order.ensures.permutation c.requires.within c.in-Some.number no_span
    c.in-Some.ensures.first.within

pub offset-requires : goal.offset-requires
offset-requires c =
    subst (λ (n : ℕ). n < length (all_entries c.args.entries.now)) (sym c.id.ensures)
    (All-permutation (λ (s : Span). s.function < length (all_entries c.args.entries.now)) c.args.spans.now
    c.order.new.spans c.order.ensures.permutation c.requires.within c.in-Some.number no_span
    c.in-Some.ensures.first.within)
