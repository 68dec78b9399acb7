-- Chapter: sets of addresses, as ranges of them (DWARF 5, 2.17.3).
use Rattle.std.specs.Prelude.{ℕ, ◌<◌, ◌≤◌, ◌↔◌, ◌⊎◌, List, All, AllPairs, Any}
use Rattle.dw_ranges.specs.declared.range.Range.{Range}

-- a range has an address: from its low one on, and below its high one
abbrev pub IsIn : ℕ → Range → Type 0
IsIn a r = (r.low ≤ a) × (a < r.high)

-- one of these ranges has an address
abbrev pub Has : List Range → ℕ → Type 0
Has ranges a = Any (IsIn a) ranges

-- the ranges are areas: each has an address, and starts above the end of the one before it
pub record AreAreas (ranges : List Range) : Type 0 where
  pub some : All (λ r. r.low < r.high) ranges
  pub apart : AllPairs (λ r s. r.high < s.low) ranges

-- every address of a range is in an area
abbrev pub IsCovered : List Range → Range → Type 0
IsCovered areas r = (a : ℕ) → IsIn a r → Has areas a

-- some areas with the addresses of one more range, which starts below none of them
pub record Joins (before : List Range) (range : Range) (after : List Range) : Type 0 where
  pub areas : AreAreas after
  pub same : (a : ℕ) → Has after a ↔ (Has before a ⊎ IsIn a range)
  pub below : All (λ r. r.low ≤ range.low) after
