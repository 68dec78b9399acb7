use Rattle.std.proofs.Common.{map, sym, ap, ◌∙◌, subst, arith}
use Rattle.std.specs.Prelude.{All, AllPairs}
use Rattle.std.proofs.lemmas.List.{take_all}
use Rattle.dw_ranges.specs.Spans.{Agree, IsSpan}
use Rattle.dw_ranges.proofs.CodeLemmas.{span_of, are_spans, apart_from_agree, agree_from_apart}
use Rattle.dw_ranges.proofs.SpanLemmas.{none_decides}
use Rattle.dw_ranges.proofs.code.are_apart.Goals as goal

pub order-requires : goal.order-requires
order-requires c =
    let all = ap (map span_of) (take_all c.loop-range.range-index c.args.ranges.now (omega arith)) in
    subst (All IsSpan) (sym (c.as_mut_slice.ensures.value ∙ c.loop-range.invariant ∙ all))
    (are_spans c.args.ranges.now c.requires)

pub returns : goal.returns
returns c =
    let all = ap (map span_of) (take_all c.loop-range.range-index c.args.ranges.now (omega arith)) in
    let same = c.as_mut_slice.ensures.value ∙ c.loop-range.invariant ∙ all in
    none_decides c.order.result c.is_none.result c.is_none.ensures c.order.ensures.agree c.order.ensures.disagree
    (λ agree. apart_from_agree c.args.ranges.now (subst (AllPairs Agree) same agree))
    (λ apart. subst (AllPairs Agree) (sym same) (agree_from_apart c.args.ranges.now apart))
