-- Chapter: which unit has an address (this project's choice: the first one if several have it).
use Rattle.std.specs.Prelude.{◌≡◌, ℕ, ◌<◌, ◌≤◌, List, All, AllPairs, Any}
use Rattle.std.specs.Ordering.{nat_cmp, ordering_then}
use Rattle.std.specs.declared.cmp.Ordering.{Ordering}
use Rattle.std.specs.declared.cmp.Reverse.{Reverse}
use Rattle.dw_ranges.specs.declared.range.Range.{Range}
use Rattle.dw_ranges.specs.declared.unit_ranges.UnitRange.{UnitRange}

-- a range of a unit has an address
abbrev pub IsInUnit : ℕ → ℕ → UnitRange → Type 0
IsInUnit a unit r = (r.unit ≡ unit) × (r.low ≤ a) × (a < r.high)

-- a unit has an address
abbrev pub UnitHas : List UnitRange → ℕ → ℕ → Type 0
UnitHas ranges a unit = Any (IsInUnit a unit) ranges

-- it is the first unit that has the address
abbrev pub IsFirstUnit : List UnitRange → ℕ → ℕ → Type 0
IsFirstUnit ranges a unit = UnitHas ranges a unit × ((other : ℕ) → UnitHas ranges a other → unit ≤ other)

-- each range has an address, and the ranges are apart and in rising order
pub record AreUnitRanges (ranges : List UnitRange) : Type 0 where
  pub some : All (λ r. r.low < r.high) ranges
  pub apart : AllPairs (λ r s. r.high ≤ s.low) ranges

-- of units that are begun up to their ends, the first one that an address is below the end of
abbrev pub IsFirstBegun : List (Reverse (ℕ × ℕ)) → ℕ → ℕ → Type 0
IsFirstBegun begun a unit = Any (λ x. (x.0.0 ≡ unit) × (a < x.0.1)) begun × All (λ x. a < x.0.1 → unit ≤ x.0.0) begun

-- the order of a heap whose greatest element is the first unit
abbrev pub order_of : Reverse (ℕ × ℕ) → Reverse (ℕ × ℕ) → Ordering
order_of x y = ordering_then (nat_cmp y.0.0 x.0.0) (nat_cmp y.0.1 x.0.1)

-- an area as one of a unit
abbrev pub range_of : ℕ → Range → UnitRange
range_of unit r = record { low = r.low; high = r.high; unit = unit }
