use Rattle.std.proofs.Common.{ℕ, ◌<◌, ◌≤◌, ◌↔◌}
use Rattle.std.specs.BinaryHeap.{IsHeap, heap_items, heap_len}
use Rattle.std.specs.Prelude.{All, Contains}
use Rattle.dw_ranges.specs.UnitRanges.{AreUnitRanges, IsFirstBegun, UnitHas, order_of}
use Rattle.dw_ranges.proofs.unit_ranges.close.Given as goal

abbrev pub invariant-loop-top : goal.invariant-loop-top
invariant-loop-top l = record {
  heap : IsHeap order_of (heap_items l.begun);
  low : l.from ≤ l.at;
  high : l.at ≤ l.limit;
  ranges : AreUnitRanges l.ranges.items;
  before : All (λ r. r.high ≤ l.at) l.ranges.items;
  earlier : (a unit : ℕ) → a < l.from → UnitHas l.ranges.items a unit ↔ UnitHas l.initial.ranges.items a unit;
  found : (a unit : ℕ) → l.from ≤ a → a < l.at
      → UnitHas l.ranges.items a unit ↔ IsFirstBegun (heap_items l.initial.begun) a unit;
  fewer : All (Contains (heap_items l.initial.begun)) (heap_items l.begun);
  kept : All (λ x. l.at < x.0.1 → Contains (heap_items l.begun) x) (heap_items l.initial.begun);
}

abbrev pub decreases-loop-top : goal.decreases-loop-top
decreases-loop-top l = heap_len l.begun
