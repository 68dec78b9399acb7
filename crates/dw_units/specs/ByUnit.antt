-- Chapter: the first fault of sections whose batches refer to nothing outside themselves: of the first faults of the
-- batches alone the one of the least group, and in that group of the first batch.
use Rattle.std.specs.Prelude.{◌≡◌, ℕ, Bool, true, false, ◌+◌, ◌<◌, List, ◌∷◌, ◌++◌, length, drop}
use Rattle.std.specs.List.{AllByRecursion}
use Rattle.dw_elf.specs.declared.sections.Sections.{Sections}
use Rattle.dw_forms.specs.declared.rule.Rule.TheVariants.{NoEntry}
use Rattle.dw_entries.specs.declared.fault.Fault.{Fault}
use Rattle.dw_entries.specs.declared.fault.PlainFault.{PlainFault}
use Rattle.dw_entries.specs.Units.{DebugUnit, AreUnits, AreFrom, units_bytes}
use Rattle.dw_forms.specs.Value.{Datum, ref_info}
use Rattle.dw_entries.specs.Entries.{Entry, entries_of}
use Rattle.dw_entries.specs.EntryRules.{EachEntry, HasAttribute}
use Rattle.dw_entries.specs.Failures.{HasNone, Rule}
use Rattle.dw_entries.specs.Faults.{Fails}
use Rattle.dw_types.specs.SizeTables.{Size}
use Rattle.dw_types.specs.Sizes.{IsSizeTable}
use Rattle.dw_image.specs.FirstFault.{Group, sizes, turn_of, failures_of, IsFirstIn, FailsInTrees, IsFirstFault}
use Rattle.dw_units.specs.IndependentBatches.{joined, StaysInside, HaveNoTypeUnit}

-- none of the units is a type unit, and no value refers to a unit by its signature: but for offsets at which no entry
-- of theirs starts, what is asked of them does not depend on the other units
pub record StaysAlone (s : Sections) (units : List DebugUnit) : Type 0 where
  pub are : AreUnits s.«abbrev».now units
  pub no_type_unit : HaveNoTypeUnit units
  pub stays : EachEntry StaysInside (entries_of units)

-- the batches stay alone, and each begins where the one before it ends
pub record AreBatches (s : Sections) (batches : List (List DebugUnit)) : Type 0 where
  pub stay : AllByRecursion (StaysAlone s) batches
  pub follow : AreFrom s.base (joined batches)

-- a value that is an offset of .debug_info
abbrev pub is_offset : Datum → Bool
is_offset (ref_info offset) = true
is_offset _ = false

-- no value of the entry is
abbrev pub HasNoOffset : Entry → Type 0
HasNoOffset e = (position attribute : ℕ) (v : Datum) → HasAttribute e position attribute v → is_offset v ≡ false

-- that the rule fails at the batch alone does not depend on the other units. Where no entry of the batch starts at an
-- offset of .debug_info, one of another batch may
abbrev pub IsFirm : List DebugUnit → Rule → Type 0
IsFirm units rule = rule ≡ NoEntry → EachEntry HasNoOffset (entries_of units)

-- ---- the groups of rules

-- no rule of an earlier group fails at the batch alone
abbrev pub PassesBelow : Sections → Group → List DebugUnit → Type 0
PassesBelow s group units = (earlier : Group) → turn_of earlier < turn_of group → HasNone (failures_of s units earlier)

-- nor of this group
abbrev pub PassesThrough : Sections → Group → List DebugUnit → Type 0
PassesThrough s group units = PassesBelow s group units × HasNone (failures_of s units group)

-- the batch alone has one table of sizes
abbrev pub HasTable : List DebugUnit → Type 0
HasTable units = (table : ℕ → Size) × IsSizeTable units table

-- where sizes are asked, it has
abbrev pub IsMeasured : Group → List DebugUnit → Type 0
IsMeasured sizes units = HasTable units
IsMeasured _ units = Unit {0}

-- the fault is the first of the batch alone, in this group
pub record FailsAlone (s : Sections) (units : List DebugUnit) (group : Group) (fault : Fault) : Type 0 where
  pub below : PassesBelow s group units
  pub first : IsFirstIn s units group fault
  pub firm : IsFirm units fault.rule

-- the batches before pass through the group at which one fails, and those behind pass the earlier groups: then the
-- fault of that batch is the first of the sections
abbrev pub FirstOfUnits : Type 0
FirstOfUnits = (s : Sections) (before : List (List DebugUnit)) (units : List DebugUnit)
    (behind : List (List DebugUnit)) (group : Group) (fault : Fault)
    → AreBatches s (before ++ units ∷ behind)
    → AllByRecursion (IsMeasured group) (before ++ units ∷ behind)
    → AllByRecursion (PassesThrough s group) before
    → FailsAlone s units group fault
    → AllByRecursion (PassesBelow s group) behind
    → drop s.base s.info.now ≡ units_bytes (joined (before ++ units ∷ behind))
    → IsFirstFault s fault

-- whole units, and then bytes at which a rule of trees fails: it fails there in the sections
abbrev pub TreesOfUnits : Type 0
TreesOfUnits = (s : Sections) (before : List DebugUnit) (rest : List ℕ) (broken : PlainFault)
    → AreUnits s.«abbrev».now before
    → drop s.base s.info.now ≡ units_bytes before ++ rest
    → Fails s.«abbrev».now (s.base + length (units_bytes before)) rest broken
    → FailsInTrees s broken
