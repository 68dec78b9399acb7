use Rattle.std.proofs.Common.{ℕ, ◌-◌, ◌^◌, ◌<◌, ◌≤◌, length, get_or, subst, arith, below_more}
use Rattle.std.specs.BinaryHeap.{heap_items}
use Rattle.std.proofs.lemmas.List.{get_or_default}
use Rattle.dw_ranges.specs.declared.unit_ranges.UnitRange.{UnitRange}
use Rattle.dw_ranges.proofs.UnitRangeLemmas.{fewer_pushed, found_all, found_up_to, kept_pushed}
use Rattle.dw_ranges.proofs.unit_ranges.append_firsts.Goals as goal

abbrev no_range : UnitRange
no_range = record { low = 0; high = 0; unit = 0 }

pub loop-range-preserved : goal.loop-range-preserved
loop-range-preserved c =
    let all = c.args.all.now in
    let i = c.loop-range.invariant in
    let k = c.loop-range.range-index in
    let r = get_or all k no_range in
    let within : k < length all = omega arith in
    let is = get_or_default all k r no_range within in
    let begun = heap_items c.loop-range.begun in
    let closed = heap_items c.close.new.begun in
    let pushed = heap_items c.push.new.self in
    let done = c.in_ok-close.ensures in
    let le : c.loop-range.from ≤ r.low = i.rises k no_range (omega arith) within in
    let moved = c.in_ok-push.ensures.permutation in
    let up = λ (j : ℕ) (d : UnitRange) (more : k ≤ j) (in' : j < length all).
    subst (λ (x : UnitRange). x.low ≤ (get_or all j d).low) (get_or_default all k d no_range within)
    (c.requires k j d more in') in
    record {
      low = omega arith;
      heap = c.in_ok-push.ensures.heap_order done.heap;
      ranges = done.ranges;
      before = done.before;
      found = found_up_to all begun k c.loop-range.from r.low i.fewer i.kept up c.loop-range.ranges.items
          c.close.new.ranges.items i.found done.earlier done.found;
      rises = λ j d more in'. up j d (omega arith) in';
      fewer = fewer_pushed all begun closed pushed r k c.loop-range.from within is le moved i.fewer done.fewer;
      kept = kept_pushed all begun closed pushed r k c.loop-range.from within is le moved i.kept done.kept;
      fits = λ j d.
          below_more (λ n. (get_or all n d).high ≤ 2 ^ 64 - 1) k (λ n lt. i.fits n d lt)
          (subst (λ (x : UnitRange). x.high ≤ 2 ^ 64 - 1) (get_or_default all k no_range d within)
          (let ok : r.high ≤ 2 ^ 64 - 1 = omega arith in ok)) j;
    }

pub returns-clause-found : goal.returns-clause-found
returns-clause-found c =
    let all = c.args.all.now in
    let i = c.loop-range.invariant in
    let k = c.loop-range.range-index in
    let done = c.in_ok-close-2.ensures in
    found_all all c.close-2.new.ranges.items (2 ^ 64 - 1) done.before (λ j d in'. i.fits j d (omega arith))
    (found_up_to all (heap_items c.loop-range.begun) k c.loop-range.from (2 ^ 64 - 1) i.fewer i.kept
    (λ j d more in'. absurd (omega arith)) c.loop-range.ranges.items c.close-2.new.ranges.items i.found done.earlier
    done.found)
