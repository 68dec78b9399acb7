use Rattle.std.proofs.Common.{rules}
use Rattle.dw_links.proofs.SpanLemmas.{text-next}
use Rattle.dw_links.proofs.string_spans.StringTable.span.Goals as goal

pub span_by-requires-clause-next : goal.span_by-requires-clause-next
span_by-requires-clause-next c = search (rules, text-next)
