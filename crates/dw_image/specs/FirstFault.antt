-- Chapter: the first fault of sections. Rules come in groups: a group is checked only if no rule of an earlier group
-- fails.
use Rattle.std.specs.Prelude.{◌≡◌, ℕ, ◌<◌, ◌⊎◌, List, [], drop, map, slice_index}
use Rattle.dw_forms.specs.declared.rule.Rule.TheVariants.{ContainsItself}
use Rattle.dw_entries.specs.declared.fault.PlainFault.{PlainFault}
use Rattle.dw_entries.specs.declared.fault.Fault.{Fault}
use Rattle.dw_entries.specs.Failures.{Failure, HasNone, IsFirst, plain_fault_of, IsPlainFault}
use Rattle.dw_entries.specs.Faults.{Fails}
use Rattle.dw_entries.specs.declared.fault.Section.TheVariants.{Info}
use Rattle.dw_entries.specs.Places.{at_entry}
use Rattle.dw_entries.specs.Units.{DebugUnit}
use Rattle.dw_links.specs.Classes.{ClassFailures}
use Rattle.dw_links.specs.Strings.{StringFailures, Sections}
use Rattle.dw_links.specs.References.{ReferenceFailures}
use Rattle.dw_types.specs.Entries.{entry_in}
use Rattle.dw_types.specs.Graphs.{IsCycle}
use Rattle.dw_types.specs.Shapes.{ShapeFailures}
use Rattle.dw_types.specs.Steps.{by_value}
use Rattle.dw_types.specs.SizeTables.{Size}
use Rattle.dw_types.specs.Sizes.{IsSizeTable}
use Rattle.dw_types.specs.SizeFaults.{SizeFailures}
use Rattle.dw_image.specs.Valid.{SpellsInfo}

-- a rule of tables, units or items fails there: whole units spell the bytes before, from the base on, and no unit
-- follows by the first check that fails
abbrev pub FailsInTrees : Sections → PlainFault → Type 0
FailsInTrees s broken = Fails s.«abbrev».now s.base (drop s.base s.info.now) broken

-- the groups of rules on entries, once units spell the sections: classes; strings and addresses;
-- references; the types of arrays and members, and counts; containment; sizes
pub data Group : Type 0 where
  classes : Group
  strings : Group
  references : Group
  shapes : Group
  cycles : Group
  sizes : Group

-- their order
abbrev pub turn_of : Group → ℕ
turn_of classes = 2
turn_of strings = 3
turn_of references = 4
turn_of shapes = 5
turn_of cycles = 6
turn_of sizes = 7

-- the offset of an entry, by its number
abbrev pub offset_at : List DebugUnit → ℕ → ℕ
offset_at units node = (entry_in units node).at

-- an entry contains itself: a cycle of steps by value starts there, and it is the least entry of the cycle
pub record ContainsItselfAt (units : List DebugUnit) (f : Failure) : Type 0 where
  pub nodes : List ℕ
  pub is_cycle : IsCycle (by_value units) nodes
  pub rule : f.rule ≡ ContainsItself
  pub place : f.place ≡ at_entry (offset_at units (slice_index nodes 0))
  pub attribute : f.attribute ≡ 0

-- a rule on sizes fails, by the one table of sizes
pub record FailsBySize (units : List DebugUnit) (f : Failure) : Type 0 where
  pub table : ℕ → Size
  pub one : IsSizeTable units table
  pub fails : SizeFailures units table f

-- what fails by the rules of a group
abbrev pub failures_of : Sections → List DebugUnit → Group → Failure → Type 0
failures_of s units classes = ClassFailures units
failures_of s units strings = StringFailures s units
failures_of s units references = ReferenceFailures units
failures_of s units shapes = ShapeFailures units
failures_of s units cycles = ContainsItselfAt units
failures_of s units sizes = FailsBySize units

-- a fault names a cycle of steps by value by the offsets of its entries, the least of which is its place
pub record NamesCycle (units : List DebugUnit) (fault : Fault) : Type 0 where
  pub nodes : List ℕ
  pub is_cycle : IsCycle (by_value units) nodes
  pub named : plain_fault_of fault
      ≡ record { rule = ContainsItself; section = Info; at = offset_at units (slice_index nodes 0); attribute = 0 }
  pub cycle : fault.cycle.items ≡ map (offset_at units) nodes

-- a fault names the first failure of a group; of several cycles it names one
abbrev pub IsFirstIn : Sections → List DebugUnit → Group → Fault → Type 0
IsFirstIn s units classes = IsPlainFault (IsFirst (failures_of s units classes))
IsFirstIn s units strings = IsPlainFault (IsFirst (failures_of s units strings))
IsFirstIn s units references = IsPlainFault (IsFirst (failures_of s units references))
IsFirstIn s units shapes = IsPlainFault (IsFirst (failures_of s units shapes))
IsFirstIn s units cycles = NamesCycle units
IsFirstIn s units sizes = IsPlainFault (IsFirst (failures_of s units sizes))

-- units spell the sections, no rule of an earlier group fails, and the fault names the first failure of this group
pub record FailsInGroup (s : Sections) (group : Group) (fault : Fault) : Type 0 where
  pub units : List DebugUnit
  pub spelled : SpellsInfo s units
  pub before : (earlier : Group) → turn_of earlier < turn_of group → HasNone (failures_of s units earlier)
  pub first : IsFirstIn s units group fault

-- the rule fails at this place of the sections, and no place before it fails, by the groups in their order
pub data IsFirstFault (s : Sections) (fault : Fault) : Type 0 where
  in_trees : FailsInTrees s (plain_fault_of fault) → fault.cycle.items ≡ [] → IsFirstFault s fault
  in_group : (group : Group) → FailsInGroup s group fault → IsFirstFault s fault

-- one fault: the rule, the section, the place, the attribute and the cycle are the same
pub record IsSame (fault other : Fault) : Type 0 where
  pub broken : plain_fault_of fault ≡ plain_fault_of other
  pub cycle : fault.cycle.items ≡ other.cycle.items

-- a type that contains itself: if there are several cycles, any one may be named
pub record NamesCycles (fault other : Fault) : Type 0 where
  pub one : fault.rule ≡ ContainsItself
  pub two : other.rule ≡ ContainsItself

-- the faults are one, but that there may be several cycles to name
abbrev pub IsOneFault : Fault → Fault → Type 0
IsOneFault fault other = IsSame fault other ⊎ NamesCycles fault other
