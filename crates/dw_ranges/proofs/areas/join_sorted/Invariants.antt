use Rattle.std.proofs.Common.{◌≡◌, ℕ, ◌≤◌, ◌<◌, ◌↔◌, length, take, drop, get_or}
use Rattle.std.specs.Prelude.{All}
use Rattle.dw_ranges.specs.Areas.{AreAreas, Has}
use Rattle.dw_ranges.specs.declared.range.Range.{Range}
use Rattle.dw_ranges.proofs.areas.join_sorted.Given as goal

abbrev pub invariant-loop-k : goal.invariant-loop-k
invariant-loop-k l =
    (l.count ≤ l.k) × AreAreas (take l.count l.ranges)
    × ((a : ℕ) → Has (take l.count l.ranges) a ↔ Has (take l.k l.initial.ranges) a)
    × (drop l.k l.ranges ≡ drop l.k l.initial.ranges)
    × ((j : ℕ) (d : Range) → l.k ≤ j → j < length l.initial.ranges
    → All (λ r. r.low ≤ (get_or l.initial.ranges j d).low) (take l.count l.ranges))
