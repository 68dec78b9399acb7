use Rattle.std.proofs.Common.{◌<◌, ◌≤◌, length, max, refl, sym, inl, inr, arith}
use Rattle.std.specs.BinaryHeap.{heap_items}
use Rattle.std.specs.Prelude.{Contains}
use Rattle.std.proofs.lemmas.Bool.{cases_lt, true≢false}
use Rattle.std.proofs.lemmas.List.Elements.{All-contains_itself, All-weaker}
use Rattle.dw_ranges.specs.declared.unit_ranges.UnitRange.{UnitRange}
use Rattle.dw_ranges.proofs.UnitRangeLemmas.{bound_first, earlier_more, fewer_more, found_more, kept_more, none_begun}
use Rattle.dw_ranges.proofs.UnitRangeLemmas.{popped, popped_heap}
use Rattle.dw_ranges.proofs.unit_ranges.close.Goals as goal

pub loop-top-init : goal.loop-top-init
loop-top-init c = record {
  heap = c.requires.heap;
  low = omega arith;
  high = c.requires.rise;
  ranges = c.requires.ranges.0;
  before = c.requires.ranges.1;
  earlier = λ a unit lt. (λ h. h, λ h. h);
  found = λ a unit ge lt. absurd (omega arith);
  fewer = All-contains_itself (heap_items c.args.begun.now);
  kept = λ k d in' lt. All-contains_itself (heap_items c.args.begun.now) k d in';
}

pub returns-then-limit-high-clause-earlier : goal.returns-then-limit-high-clause-earlier
returns-then-limit-high-clause-earlier c =
    earlier_more c.loop-top.ranges.items c.push_some.new.ranges.items c.args.ranges.now.items _ c.args.from
    c.loop-top.invariant.low c.in_ok-push_some.ensures.has c.loop-top.invariant.earlier

pub returns-then-limit-high-clause-found : goal.returns-then-limit-high-clause-found
returns-then-limit-high-clause-found c a unit ge lt =
    let all = heap_items c.args.begun.now in
    let now = heap_items c.loop-top.begun in
    let top = c.in-Some.top.now in
    let i = c.loop-top.invariant in
    let some_now : 0 < length now = omega (arith, c.in-Some.ensures.variant.0 refl) in
    let there : Contains now top = (0, some_now, sym c.in-Some.ensures.lookup) in
    found_more all now top c.loop-top.at i.fewer i.kept there
    (bound_first top now (c.in-Some.ensures.greatest i.heap)) c.args.from c.min-end.result c.loop-top.ranges.items
    c.push_some.new.ranges.items (omega arith) i.before c.in_ok-push_some.ensures.has i.found a unit ge (omega arith)

pub loop-top-preserved : goal.loop-top-preserved
loop-top-preserved c =
    let all = heap_items c.args.begun.now in
    let now = heap_items c.loop-top.begun in
    let rest = heap_items c.pop.new.self in
    let top = c.in-Some.top.now in
    let i = c.loop-top.invariant in
    let some_now : 0 < length now = omega (arith, c.in-Some.ensures.variant.0 refl) in
    let there : Contains now top = (0, some_now, sym c.in-Some.ensures.lookup) in
    let first = bound_first top now (c.in-Some.ensures.greatest i.heap) in
    let some = c.pop.ensures.variant.1 (omega arith) in
    let moved = popped c.pop.result now rest top c.pop.ensures.permutation c.pop.ensures.top some
    c.in-Some.ensures.lookup some_now in
    record {
      heap = popped_heap c.pop.result now rest c.pop.ensures.heap_order some i.heap;
      low = omega arith;
      high = omega arith;
      ranges = c.in_ok-push_some.ensures.ranges;
      before = All-weaker (λ (r : UnitRange). r.high ≤ max c.loop-top.at c.min-end.result)
          (λ (r : UnitRange). r.high ≤ c.max-at.result) (λ r le. omega arith) c.push_some.new.ranges.items
          c.in_ok-push_some.ensures.before;
      earlier = earlier_more c.loop-top.ranges.items c.push_some.new.ranges.items c.args.ranges.now.items _ c.args.from
          i.low c.in_ok-push_some.ensures.has i.earlier;
      found = λ a unit ge lt.
          found_more all now top c.loop-top.at i.fewer i.kept there first c.args.from c.min-end.result
          c.loop-top.ranges.items c.push_some.new.ranges.items (omega arith) i.before c.in_ok-push_some.ensures.has
          i.found a unit ge (omega arith);
      fewer = fewer_more all now top c.loop-top.at i.fewer i.kept there first rest moved;
      kept = kept_more all now top c.loop-top.at i.fewer i.kept there first c.max-at.result rest moved (omega arith)
          (omega arith);
    }

pub returns-clause-found : goal.returns-clause-found
returns-clause-found c a unit ge lt =
    let i = c.loop-top.invariant in
    let empty : length (heap_items c.loop-top.begun) ≤ 0 = elim (cases_lt 0 (length (heap_items c.loop-top.begun))) [
      | inl some ↦ absurd (true≢false (sym (c.in_default.ensures.variant.1 (omega (arith, some)))))
      | inr none ↦ none
    ] in
    none_begun (heap_items c.args.begun.now) (heap_items c.loop-top.begun) c.loop-top.ranges.items c.args.from
    c.loop-top.at i.kept empty i.before i.found a unit ge
