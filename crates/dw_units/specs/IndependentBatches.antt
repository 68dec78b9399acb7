-- Chapter: batches of units that refer to nothing outside themselves. A batch is some units, one after another, as
-- those that share an abbreviation table. If each batch is valid by itself, all are valid together.
use Rattle.std.specs.Prelude.{◌≡◌, ℕ, false, List, None}
use Rattle.std.specs.List.{AllByRecursion, flat_map}
use Rattle.dw_forms.specs.declared.form.Form.{Form}
use Rattle.dw_forms.specs.declared.form.Form.TheVariants.{RefAddr, RefSig8, Indirect}
use Rattle.dw_units.specs.declared.batches.Elsewhere.{Elsewhere}
use Rattle.dw_units.specs.declared.batches.Elsewhere.TheVariants.{Never, ByOffset, BySignature}
use Rattle.dw_entries.specs.Units.{DebugUnit, AreUnits, SpellsInfo}
use Rattle.dw_entries.specs.Entries.{Entry, entries_of}
use Rattle.dw_entries.specs.EntryRules.{EachEntry, HasAttribute}
use Rattle.dw_entries.specs.Failures.{HasNone}
use Rattle.dw_links.specs.Classes.{ClassFailures}
use Rattle.dw_links.specs.Signatures.{type_unit_of}
use Rattle.dw_links.specs.Strings.{StringFailures, Sections}
use Rattle.dw_links.specs.References.{is_signature, ReferenceFailures, Datum}
use Rattle.dw_types.specs.Graphs.{HasNoCycle}
use Rattle.dw_types.specs.Shapes.{ShapeFailures}
use Rattle.dw_types.specs.Steps.{by_value}
use Rattle.dw_types.specs.SizeTables.{Size}
use Rattle.dw_image.specs.Valid.{HasSizes, IsValidBy}

-- the units of batches, one after another
abbrev pub joined : List (List DebugUnit) → List DebugUnit
joined batches = flat_map (λ units. units) batches

-- no value of the entry refers to a unit by its signature (DWARF 5, 7.5.5)
abbrev pub StaysInside : Entry → Type 0
StaysInside e = (position attribute : ℕ) (v : Datum) → HasAttribute e position attribute v → is_signature v ≡ false

-- no unit is a type unit
abbrev pub HaveNoTypeUnit : List DebugUnit → Type 0
HaveNoTypeUnit units = AllByRecursion (λ (u : DebugUnit). type_unit_of u.header.kind ≡ None) units

-- the units are valid at their place, as if they were all, none is a type unit, and no value refers to a unit by its
-- signature
pub record StandsAlone (s : Sections) (units : List DebugUnit) : Type 0 where
  pub are : AreUnits s.«abbrev».now units
  pub classes : HasNone (ClassFailures units)
  pub strings : HasNone (StringFailures s units)
  pub references : HasNone (ReferenceFailures units)
  pub shapes : HasNone (ShapeFailures units)
  pub contained : HasNoCycle (by_value units)
  pub sizes : (table : ℕ → Size) × HasSizes units table
  pub no_type_unit : HaveNoTypeUnit units
  pub stays : EachEntry StaysInside (entries_of units)

-- batches that each stand alone, one after another, are valid together
abbrev pub JoinsUnits : Type 0
JoinsUnits = (s : Sections) (batches : List (List DebugUnit)) → AllByRecursion (StandsAlone s) batches
    → SpellsInfo s (joined batches) → IsValidBy s (joined batches)

-- how a value in this form may refer to an entry of another unit: not at all; by an offset of .debug_info; or by a
-- signature, or as the entry names the form
abbrev pub leaves_by : Form → Elsewhere
leaves_by RefAddr = ByOffset
leaves_by RefSig8 = BySignature
leaves_by Indirect = BySignature
leaves_by _ = Never
