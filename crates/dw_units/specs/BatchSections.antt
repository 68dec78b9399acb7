-- State: the batches of .debug_info, each as sections of its own, and what is found of them one after another.
use Rattle.std.specs.Prelude.{◌≡◌, ◌≢◌, ℕ, ◌+◌, ◌<◌, ◌≤◌, List, [], ◌∷◌, ◌++◌, length, drop}
use Rattle.std.specs.List.{count_by}
use Rattle.dw_elf.specs.declared.sections.Sections.{Sections}
use Rattle.dw_entries.specs.Units.{DebugUnit, AreFrom, units_bytes}
use Rattle.dw_entries.specs.Entries.{Entry, entries_of}
use Rattle.dw_entries.specs.EntryRules.{EachEntry}
use Rattle.dw_image.specs.Lookups.{is_type_entry}
use Rattle.dw_entries.specs.declared.fault.Fault.{Fault}
use Rattle.dw_forms.specs.declared.rule.Rule.{Rule}
use Rattle.dw_forms.specs.declared.rule.Rule.TheVariants.{UnitCut}
use Rattle.dw_forms.specs.Rules.{group_of}
use Rattle.dw_image.specs.GroupsBefore.{PassBefore}
use Rattle.dw_image.specs.FirstFault.{Group}
use Rattle.dw_image.specs.Headline.{IsFaultOf}
use Rattle.dw_units.specs.declared.counts.Counts.{Counts}
use Rattle.dw_units.specs.declared.checking.Found.{Found}
use Rattle.dw_units.specs.declared.checking.Found.TheVariants as found
use Rattle.dw_units.specs.declared.batches.Elsewhere.{Elsewhere}
use Rattle.dw_units.specs.declared.batches.Elsewhere.TheVariants.{Never, ByOffset, BySignature}
use Rattle.dw_units.specs.ByUnit.{HasNoOffset, IsFirm, PassesBelow, PassesThrough, IsMeasured, FailsAlone, StaysAlone}
use Rattle.dw_units.specs.IndependentBatches.{StaysInside, StandsAlone}
use Rattle.dw_units.specs.Counts.{AreCounts, sums}

-- batches of these sizes are at the front of the bytes, and these bytes follow
abbrev pub AreSizes : (sizes bytes rest : List ℕ) → Type 0
AreSizes [] bytes rest = bytes ≡ rest
AreSizes (size ∷ sizes) bytes rest = (size ≤ length bytes) × AreSizes sizes (drop size bytes) rest

-- values that refer so are allowed, if no others than such may
abbrev pub IsAllowed : (most found : Elsewhere) → Type 0
IsAllowed Never found = found ≡ Never
IsAllowed ByOffset found = found ≢ BySignature
IsAllowed BySignature found = Unit {0}

-- how the values of these entries refer to those of other units
abbrev pub Refer : List Entry → Elsewhere → Type 0
Refer entries Never = EachEntry StaysInside entries × EachEntry HasNoOffset entries
Refer entries ByOffset = EachEntry StaysInside entries
Refer entries BySignature = Unit {0}

-- this fault of a batch is what is found, and no unit of the batch is cut, so the bytes after it change nothing
abbrev pub IsWhollyFound : Fault → Found → Type 0
IsWhollyFound fault it = (it ≡ found.Fault fault) × (fault.rule ≢ UnitCut)

-- this fault of a batch is what is found, and it does not depend on the other units, by values that refer so
abbrev pub IsFirmlyFound : Elsewhere → Fault → Found → Type 0
IsFirmlyFound elsewhere fault it = (it ≡ found.Fault fault)
    × ((units : List DebugUnit) → Refer (entries_of units) elsewhere → IsFirm units fault.rule)

-- a rule is less than what is found so far: there is no fault, or one of a later group
abbrev pub IsLess : Found → Rule → Type 0
IsLess (found.Sound c) rule = Unit {0}
IsLess (found.Fault least) rule = group_of rule < group_of least.rule

-- what is found after one batch more, which is sections of its own: it is sound like those before it; it has no fault
-- that is less than theirs; or it has one
pub data IsFoundAfter (own : Sections) (units : List DebugUnit) : (so_far more : Found) → Type 0 where
  sound : (a b : Counts) → AreCounts own b → IsFoundAfter own units (found.Sound a) (found.Sound (sums a b))
  passes : (least : Fault) → PassBefore own units (group_of least.rule)
      → IsFoundAfter own units (found.Fault least) (found.Fault least)
  fails : (so_far : Found) (fault : Fault) → IsLess so_far fault.rule → IsFaultOf own fault → IsFirm units fault.rule
      → IsFoundAfter own units so_far (found.Fault fault)

-- units stay alone, no rule of an earlier group fails at them, and where sizes are asked they have their table
pub record IsReady (s : Sections) (group : Group) (units : List DebugUnit) : Type 0 where
  pub stays : StaysAlone s units
  pub measured : IsMeasured group units
  pub below : PassesBelow s group units

-- the fault is the least of these units: of the first batch in the least group
pub record HasLeast (s : Sections) (us : List DebugUnit) (fault : Fault) : Type 0 where
  pub before : List DebugUnit
  pub units : List DebugUnit
  pub behind : List DebugUnit
  pub group : Group
  pub are : us ≡ before ++ (units ++ behind)
  pub early : IsReady s group before
  pub passed : PassesThrough s group before
  pub one : IsReady s group units
  pub fails : FailsAlone s units group fault
  pub late : IsReady s group behind

-- the units stand alone, and these are their counts
pub record AreCounted (s : Sections) (us : List DebugUnit) (c : Counts) : Type 0 where
  pub alone : StandsAlone s us
  pub unit_count : c.units ≡ length us
  pub entry_count : c.entries ≡ length (entries_of us)
  pub type_count : c.types ≡ count_by is_type_entry (entries_of us)

-- this is found of the units
abbrev pub IsFoundOf : Sections → List DebugUnit → Found → Type 0
IsFoundOf s us (found.Sound c) = AreCounted s us c
IsFoundOf s us (found.Fault fault) = HasLeast s us fault

-- units have the bytes from the base up to an offset, and this is found of them
pub record IsFoundUpTo (s : Sections) (at : ℕ) (it : Found) : Type 0 where
  pub units : List DebugUnit
  pub from : AreFrom s.base units
  pub at_is : at ≡ s.base + length (units_bytes units)
  pub bytes : drop s.base s.info.now ≡ units_bytes units ++ drop at s.info.now
  pub of_units : IsFoundOf s units it
