-- Chapter: the functions of a file by address (DWARF 5, 3.1.1 and 3.3): those of all its units.
use Rattle.std.specs.Prelude.{◌≡◌, ℕ, ◌-◌, ◌^◌, ◌<◌, ◌≤◌, ◌↔◌, zero, suc, List, [], length, Option, Some, None, All}
use Rattle.std.specs.Prelude.{slice_index_or, slice_range}
use Rattle.dw_ranges.specs.Areas.{Has}
use Rattle.dw_entries.specs.declared.entries.Entries.{Entries}
use Rattle.dw_entries.specs.Views.{units_of}
use Rattle.dw_ranges.specs.Functions.{HasFunctions, Known, Violates, scope_at}
use Rattle.dw_ranges.specs.Spans.{AreOrdered, IsChain}
use Rattle.dw_ranges.specs.Totals.{no_totals}
use Rattle.dw_ranges.specs.UnitRanges.{AreUnitRanges, UnitHas}
use Rattle.dw_ranges.specs.declared.bounds.RangeSections.{RangeSections}
use Rattle.dw_ranges.specs.declared.fault.RangeFault.{RangeFault}
use Rattle.dw_ranges.specs.declared.file.FileFunctions.{FileFunctions}
use Rattle.dw_ranges.specs.declared.file.UnitSpans.{UnitSpans}
use Rattle.dw_ranges.specs.declared.range.Range.{Range}
use Rattle.dw_ranges.specs.declared.spans.Span.{Span}
use Rattle.dw_ranges.specs.declared.totals.Totals.{Totals}
use Rattle.dw_ranges.specs.declared.unit_ranges.UnitRange.{UnitRange}

-- what is known of the unit of a number past the last one
abbrev pub no_known : Known
no_known = record {
  scopes = [];
  spans = [];
  totals = no_totals 0;
}

-- what is known of the unit with a number
abbrev pub known_at : List Known → ℕ → Known
known_at units number = slice_index_or units number no_known

-- the areas of a unit: those of its first entry
abbrev pub unit_areas : Known → List Range
unit_areas unit = (scope_at unit.scopes 0).areas

-- the unit with a number has an address
abbrev pub HasAt : List Known → ℕ → ℕ → Type 0
HasAt units a number = (number < length units) × Has (unit_areas (known_at units number)) a

-- it is the unit of the address: the first one that has it
abbrev pub IsUnitAt : List Known → ℕ → ℕ → Type 0
IsUnitAt units a number = HasAt units a number × ((other : ℕ) → HasAt units a other → number ≤ other)

-- these functions are at an address: those of its unit that have it, each inlined in the one before it. There are none
-- where no unit has the address
abbrev pub AreFunctionsAt : List Known → (a : ℕ) → Option ℕ → List ℕ → Type 0
AreFunctionsAt units a None fs = ((number : ℕ) → ¬ (HasAt units a number)) × (fs ≡ [])
AreFunctionsAt units a (Some number) fs = IsUnitAt units a number × IsChain (known_at units number).spans 0 a fs

-- the spans that are kept for a unit are its own
pub record IsPart (spans : List Span) (unit : Known) (part : UnitSpans) : Type 0 where
  pub rises : part.first ≤ part.end
  pub within : part.end ≤ length spans
  pub are : slice_range spans part.first part.end ≡ unit.spans
  pub ordered : AreOrdered unit.spans
  pub few : All (λ s. s.function < 2 ^ 64 - 1) unit.spans

-- the place of the spans of a unit of a number past the last one
abbrev pub no_part : UnitSpans
no_part = record { first = 0; end = 0 }

-- the spans of each unit are kept
pub record AreParts (units : List Known) (spans : List Span) (parts : List UnitSpans) : Type 0 where
  pub count : length parts ≡ length units
  pub each : (k : ℕ) → k < length units → IsPart spans (known_at units k) (slice_index_or parts k no_part)

-- by these tables the functions of these units are looked up
pub record IsIndexOf (units : List Known) (file : FileFunctions) : Type 0 where
  pub ranges : AreUnitRanges file.units.items
  pub first : (a number : ℕ) → UnitHas file.units.items a number ↔ IsUnitAt units a number
  pub parts : AreParts units file.spans.items file.parts.items

-- they are tables of some units
abbrev pub IsIndex : FileFunctions → Type 0
IsIndex file = (units : List Known) × IsIndexOf units file

module _ (sections : RangeSections) (code : List Range) (entries : Entries) (budget : ℕ) where
  -- what is counted before the unit with a number
  abbrev pub totals_before : List Known → ℕ → Totals
  totals_before units zero = no_totals budget
  totals_before units (suc number) = (known_at units number).totals

  -- these are the functions of the first units, which violate no rule
  abbrev pub AreUnits : List Known → Type 0
  AreUnits units = (number : ℕ) → number < length units
      → HasFunctions sections code entries number (totals_before units number) (known_at units number)

  -- what is kept of the first units, so many, which violate no rule: what is counted, their areas, and the spans of
  -- their functions
  pub record AreRead (number : ℕ) (totals : Totals) (all : List UnitRange) (spans : List Span)
      (parts : List UnitSpans) : Type 0 where
    pub units : List Known
    pub count : length units ≡ number
    pub each : AreUnits units
    pub totals_are : totals ≡ totals_before units number
    pub all_are : (a unit : ℕ) → UnitHas all a unit ↔ HasAt units a unit
    pub parts_are : AreParts units spans parts

  -- the tables of a file whose units violate no rule, for look-ups by address
  pub record HasFile (file : FileFunctions) : Type 0 where
    pub units : List Known
    pub all : length units ≡ length (units_of entries)
    pub each : AreUnits units
    pub totals : file.totals ≡ totals_before units (length units)
    pub index : IsIndexOf units file

  -- the first rule that a file violates: that of the first unit that violates one
  pub record FileViolates (fault : RangeFault) : Type 0 where
    pub units : List Known
    pub some : length units < length (units_of entries)
    pub each : AreUnits units
    pub is : Violates sections code entries (length units) (totals_before units (length units)) fault
