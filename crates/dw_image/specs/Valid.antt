-- Chapter: when sections are valid: which rules hold, group by group.
use Rattle.std.specs.Prelude.{ℕ, List}
use Rattle.dw_entries.specs.Failures.{HasNone}
use Rattle.dw_entries.specs.Units.{DebugUnit}
use Rattle.dw_links.specs.Classes.{ClassFailures}
use Rattle.dw_links.specs.Strings.{StringFailures, Sections}
use Rattle.dw_links.specs.References.{ReferenceFailures}
use Rattle.dw_types.specs.Graphs.{HasNoCycle}
use Rattle.dw_types.specs.Shapes.{ShapeFailures}
use Rattle.dw_types.specs.Steps.{by_value}
use Rattle.dw_types.specs.SizeTables.{Size}
use Rattle.dw_types.specs.Sizes.{IsSizeTable}
use Rattle.dw_types.specs.SizeFaults.{SizeFailures}
-- the units spell .debug_info, from its base on, by the tables of .debug_abbrev (DWARF 5, 7.5.1): a header each, a tree
-- of entries with declared abbreviations and attributes in their forms' grammar, and nulls
pub use Rattle.dw_entries.specs.Units.{SpellsInfo}

-- one table of sizes obeys the size lines of all entries and no other does, and by it no rule on sizes fails
pub record HasSizes (units : List DebugUnit) (table : ℕ → Size) : Type 0 where
  pub one : IsSizeTable units table
  pub none : HasNone (SizeFailures units table)

-- the rules hold of sections that these units spell: those on trees, abbreviations and forms; on the classes of values;
-- on strings and addresses; on references; on the types of arrays and members, and on counts; on containment; on sizes
pub record IsValidBy (s : Sections) (units : List DebugUnit) : Type 0 where
  pub trees : SpellsInfo s units
  pub classes : HasNone (ClassFailures units)
  pub strings : HasNone (StringFailures s units)
  pub references : HasNone (ReferenceFailures units)
  pub shapes : HasNone (ShapeFailures units)
  pub contained : HasNoCycle (by_value units)
  pub sizes : (table : ℕ → Size) × HasSizes units table

-- some units spell the sections, and the rules hold of them
abbrev pub IsValid : Sections → Type 0
IsValid s = (units : List DebugUnit) × IsValidBy s units
