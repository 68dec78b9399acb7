-- Chapter: which ranges are of the program's code. A linker that drops a function leaves its entry, with addresses such
-- as 0 (this project's choice: the addresses of such a range are no code, and violate no rule).
use Rattle.std.specs.Prelude.{◌≡◌, ℕ, List, Bool, not, ◌&&◌, nat_lt, nat_le, AllPairs, filter, count_by, length}
use Rattle.std.specs.Prelude.{◌↔◌, ◌⊎◌, ◌+◌, ◌<◌, ◌≤◌, Ok, Err}
use Rattle.std.specs.List.{list_any}
use Rattle.dw_entries.specs.Entries.{Entry}
use Rattle.dw_ranges.specs.Areas.{AreAreas, Has, IsIn}
use Rattle.dw_ranges.specs.EntryRanges.{entry_ranges}
use Rattle.dw_ranges.specs.declared.addresses.UnitAddresses.{UnitAddresses}
use Rattle.dw_ranges.specs.declared.bounds.RangeSections.{RangeSections}
use Rattle.dw_ranges.specs.declared.fault.RangeFault.{RangeFault}
use Rattle.dw_ranges.specs.declared.range.Range.{Range}
use Rattle.dw_ranges.specs.declared.rule.RangeRule.TheVariants.{RangesMeet, ListBudget}
use Rattle.dw_ranges.specs.declared.totals.RangeCounts.{RangeCounts}

-- whether a range has an address
abbrev pub has_some : Range → Bool
has_some r = nat_lt r.low r.high

-- whether an area has every address of a range
abbrev pub is_within : List Range → Range → Bool
is_within areas r = list_any (λ area. nat_le area.low r.low && nat_le r.high area.high) areas

-- whether a range has an address and an area of the code has all of them
abbrev pub is_live : List Range → Range → Bool
is_live code r = has_some r && is_within code r

-- whether a range has an address and not all of them are of the code
abbrev pub is_dead : List Range → Range → Bool
is_dead code r = has_some r && not (is_within code r)

-- the live ranges
abbrev pub live_ranges : List Range → List Range → List Range
live_ranges code ranges = filter (is_live code) ranges

-- ranges that share an address are the same: a linker that folds equal functions gives them one place
abbrev pub AreApart : List Range → Type 0
AreApart ranges = AllPairs (λ r s. (a : ℕ) → IsIn a r → IsIn a s → (r.low ≡ s.low) × (r.high ≡ s.high)) ranges

module _ (sections : RangeSections) (unit : UnitAddresses) (code : List Range) (e : Entry) (budget : ℕ) where
  -- the live ranges of an entry are apart, these areas have their addresses and no others, so many bytes of the budget
  -- are left after the entry's range list, and it has so many ranges and dead ones
  pub record AreCodeOf (areas : List Range) (left : ℕ) (counts : RangeCounts) : Type 0 where
    pub ranges : List Range
    pub bytes : ℕ
    pub are : entry_ranges sections unit e ≡ Ok (ranges, bytes)
    pub budgeted : budget ≡ bytes + left
    pub count : counts ≡ record { ranges = length ranges; dead = count_by (is_dead code) ranges }
    pub apart : AreApart (live_ranges code ranges)
    pub are_areas : AreAreas areas
    pub same : (a : ℕ) → Has areas a ↔ Has (live_ranges code ranges) a

  -- the range list of an entry has more bytes than the budget (rule X13, this project's choice)
  pub record IsOverBudget (fault : RangeFault) : Type 0 where
    pub ranges : List Range
    pub bytes : ℕ
    pub are : entry_ranges sections unit e ≡ Ok (ranges, bytes)
    pub over : budget < bytes
    pub is : fault ≡ record { rule = ListBudget; at = e.at }

  -- two different live ranges of an entry share an address (rule X8)
  pub record Meet (fault : RangeFault) : Type 0 where
    pub ranges : List Range
    pub bytes : ℕ
    pub are : entry_ranges sections unit e ≡ Ok (ranges, bytes)
    pub within : bytes ≤ budget
    pub meet : ¬ (AreApart (live_ranges code ranges))
    pub is : fault ≡ record { rule = RangesMeet; at = e.at }

  -- the first rule that it violates: one of X1 to X7, X13, or X8
  abbrev pub CodeFails : RangeFault → Type 0
  CodeFails fault = (entry_ranges sections unit e ≡ Err fault) ⊎ (IsOverBudget fault ⊎ Meet fault)
