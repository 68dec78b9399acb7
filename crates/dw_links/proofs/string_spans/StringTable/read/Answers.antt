use Rattle.std.proofs.Common.{rules}
use Rattle.dw_links.proofs.SpanLemmas.{span-before, spans-more}
use Rattle.dw_links.proofs.string_spans.StringTable.read.Goals as goal

pub span_by-span-requires-clause-next : goal.span_by-span-requires-clause-next
span_by-span-requires-clause-next c = search (rules, span-before)

pub loop-k-preserved : goal.loop-k-preserved
loop-k-preserved c =
    spans-more _ _ _ _ _ _ _ c.loop-k.invariant c.split_at.ensures.back c.span_by-span.ensures
    c.in_ok-push-2.ensures.items
