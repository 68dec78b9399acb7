use Rattle.std.proofs.Common.{ℕ, ◌<◌, ◌≤◌, ◌↔◌, ◌^◌, ◌-◌, length, get_or}
use Rattle.std.specs.BinaryHeap.{IsHeap, heap_items}
use Rattle.std.specs.Prelude.{All}
use Rattle.dw_ranges.specs.UnitRanges.{AreUnitRanges, IsFirstUnit, UnitHas, order_of}
use Rattle.dw_ranges.specs.declared.unit_ranges.UnitRange.{UnitRange}
use Rattle.dw_ranges.proofs.UnitRangeLemmas.{HasBegun, IsKept}
use Rattle.dw_ranges.proofs.unit_ranges.append_firsts.Given as goal

abbrev pub invariant-loop-range : goal.invariant-loop-range
invariant-loop-range l = record {
  low : l.from ≤ 2 ^ 64 - 1;
  heap : IsHeap order_of (heap_items l.begun);
  ranges : AreUnitRanges l.ranges.items;
  before : All (λ r. r.high ≤ l.from) l.ranges.items;
  found : (a unit : ℕ) → a < l.from → UnitHas l.ranges.items a unit ↔ IsFirstUnit l.all a unit;
  rises : (j : ℕ) (d : UnitRange) → l.range-index ≤ j → j < length l.all → l.from ≤ (get_or l.all j d).low;
  fewer : All (HasBegun l.all l.from) (heap_items l.begun);
  kept : (j : ℕ) (d : UnitRange) → j < l.range-index → IsKept l.from (heap_items l.begun) (get_or l.all j d);
  fits : (j : ℕ) (d : UnitRange) → j < l.range-index → (get_or l.all j d).high ≤ 2 ^ 64 - 1;
}
