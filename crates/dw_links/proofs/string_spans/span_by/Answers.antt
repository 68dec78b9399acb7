use Rattle.std.proofs.Common.{rules, refl}
use Rattle.dw_links.proofs.SpanLemmas.{span-front, span-joined}
use Rattle.dw_links.proofs.string_spans.span_by.Goals as goal

pub returns-then-front-offset : goal.returns-then-front-offset
returns-then-front-offset c = search (rules, span-front)

pub returns-then-front : goal.returns-then-front
returns-then-front c =
    span-joined _ _ _ _ _ c.requires.within c.split_at.ensures.front c.string_from.ensures c.of-front.ensures
    c.args.next _ c.requires.next c.if-front-offset.false (rw c.if-front.true refl)

pub returns-else-front : goal.returns-else-front
returns-else-front c =
    span-joined _ _ _ _ _ c.requires.within c.split_at.ensures.front c.string_from.ensures c.of-front.ensures
    c.args.next _ c.requires.next c.if-front-offset.false (rw c.if-front.false refl)
