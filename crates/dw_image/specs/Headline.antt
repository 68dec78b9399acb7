-- Chapter: what a verdict says of the sections. This is the file to read first: its words are defined in Valid.antt,
-- FirstFault.antt and Images.antt, and those of the grammar in the crates below.
use Rattle.std.specs.Prelude.{◌≡◌, ◌↔◌, ℕ, ◌<◌, true, List, ◌++◌, drop, length, slice_get, Some}
use Rattle.dw_elf.specs.declared.sections.Sections.{Sections}
use Rattle.dw_entries.specs.declared.fault.Fault.{Fault as FirstFault}
use Rattle.dw_entries.specs.ByNumber.{unit_of}
use Rattle.dw_entries.specs.Grammar.{IsHead, head_bytes}
use Rattle.dw_entries.specs.Units.{DebugUnit, context_of}
use Rattle.dw_entries.specs.Header.{version_of}
use Rattle.dw_entries.specs.Entries.{Entry, entries_of, PlacedUnit, placed}
use Rattle.dw_entries.specs.EntryRules.{EachEntry}
use Rattle.dw_entries.specs.Failures.{HasNone}
use Rattle.dw_links.specs.Classes.{class_of, allows_in}
use Rattle.dw_links.specs.LinkLaws.{EachValue, HasTexts, HaveTargets, HaveTypes}
use Rattle.dw_types.specs.Graphs.{IsStep, HasNoCycle}
use Rattle.dw_types.specs.Shapes.{ShapeFailures}
use Rattle.dw_types.specs.SizeTables.{Size}
use Rattle.dw_types.specs.Steps.{by_value, IsStepByValue}
use Rattle.dw_image.specs.declared.image.Image.{Image}
use Rattle.dw_image.specs.declared.verifying.Verdict.{Verdict}
use Rattle.dw_image.specs.declared.verifying.Verdict.TheVariants.{Sound, Fault}
use Rattle.dw_image.specs.Images.{sections_in, units_in, size_table_in}
use Rattle.dw_image.specs.Valid.{SpellsInfo, HasSizes, IsValid}
use Rattle.dw_image.specs.FirstFault.{IsFirstFault}

-- an entry of these units is at its offset of .debug_info, by a declared abbreviation and with its attributes in
-- their forms' grammar, as its unit's table, version and size of addresses have it
pub record IsSpelled (s : Sections) (units : List DebugUnit) (e : Entry) : Type 0 where
  pub in_units : e.unit < length units
  pub head : IsHead (context_of (unit_of units e.unit)) e.head
  pub rest : List ℕ
  pub stands : drop e.at s.info.now ≡ head_bytes e.head ++ rest

-- trees, abbreviations and forms: .debug_info is this list of units and no other, one tree of entries a unit, and each
-- entry is spelled there
pub record HasTrees (s : Sections) (units : List DebugUnit) : Type 0 where
  pub spelled : SpellsInfo s units
  pub only : (others : List DebugUnit) → SpellsInfo s others → others ≡ units
  pub entries : EachEntry (IsSpelled s units) (entries_of units)

-- each value has one of the classes that its attribute may have in a unit of that version (DWARF 5, 7.5.4 and 7.5.5)
abbrev pub HasClasses : List DebugUnit → Type 0
HasClasses units =
    EachValue (λ e attribute v. (unit : PlacedUnit) → slice_get (placed units) e.unit ≡ Some unit
    → allows_in (version_of unit.unit.header.kind) attribute (class_of v) ≡ true) (entries_of units)

-- references: each reaches one entry, of a permitted kind, and a sibling attribute the next sibling; signatures are
-- distinct, and a type starts at the type offset of each type unit (DWARF 5, 7.5.5)
pub record HasReferences (units : List DebugUnit) : Type 0 where
  pub targets : HaveTargets units
  pub types : HaveTypes units

-- containment: no entry violates a rule on shapes (Y); no list of steps by value returns to its start, where a step is
-- from an entry to what it holds as its type, as the type of a plain member, or by its signature
pub record HoldsNoneOfItself (units : List DebugUnit) : Type 0 where
  pub shapes : HasNone (ShapeFailures units)
  pub steps : (from to : ℕ) → IsStep (by_value units) from to ↔ IsStepByValue units from to
  pub none : HasNoCycle (by_value units)

-- sound: the sections are valid, of these units, and have no fault; and what each group of rules promises
pub record IsSoundBy (s : Sections) (units : List DebugUnit) : Type 0 where
  pub trees : HasTrees s units
  pub classes : HasClasses units
  pub texts : HasTexts s units
  pub references : HasReferences units
  pub contained : HoldsNoneOfItself units
  pub sizes : (table : ℕ → Size) × HasSizes units table
  pub valid : IsValid s
  pub faultless : (fault : FirstFault) → IsFirstFault s fault → ⊥

-- the image is of these sections, which are sound by its units, and its sizes are theirs
pub record IsImageOf (s : Sections) (image : Image) : Type 0 where
  pub sections : sections_in image ≡ s
  pub sound : IsSoundBy s (units_in image)
  pub sizes : HasSizes (units_in image) (size_table_in image)

-- not sound: the named rule fails at the named place, which is the first, and the sections are not valid
pub record IsFaultOf (s : Sections) (fault : FirstFault) : Type 0 where
  pub first : IsFirstFault s fault
  pub invalid : IsValid s → ⊥

-- what a verdict says of the sections
abbrev pub IsVerdictOf : Sections → Verdict → Type 0
IsVerdictOf s (Sound image) = IsImageOf s image
IsVerdictOf s (Fault fault) = IsFaultOf s fault
