use Rattle.dw_links.proofs.SpanLemmas.{SpansTo}
use Rattle.dw_links.proofs.string_spans.StringTable.read.Given as goal

abbrev pub invariant-loop-k : goal.invariant-loop-k
invariant-loop-k l = SpansTo l.section l.k l.spans.items l.span
