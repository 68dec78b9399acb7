-- State: what holds of a result, unless memory ran out.
use Rattle.dw_forms.specs.declared.fault.AbbrevFault.{AbbrevFault}
use Rattle.dw_entries.specs.Faults.{BeginsNoNull, in_table}
use Rattle.std.specs.Prelude.{◌≡◌, ◌≢◌, ℕ, true, List, ◌+◌, ◌++◌, ◌∷◌, length, [], Result, Ok, Err}
use Rattle.dw_entries.specs.declared.records.Kept.{Kept}
use Rattle.dw_forms.specs.declared.abbrev_tables.AbbrevTables.{AbbrevTables}
use Rattle.dw_forms.specs.AbbrevTables.{tables_in, AreTablesOf}
use Rattle.dw_forms.specs.Chains.{chain_in}
use Rattle.dw_forms.specs.KeptDecls.{decl_number_in}
use Rattle.dw_forms.specs.TableStarts.{Stay}
use Rattle.dw_entries.specs.Scanned.{UnitRecord, Record, IsRecordOfUnit}
use Rattle.dw_entries.specs.Failures.{Fault, PlainFault, IsPlainFault}
use Rattle.dw_entries.specs.Header.{HeaderKind, fits_tag, unit_header_size}
use Rattle.dw_entries.specs.Tree.{Node, IsNode, node_bytes}
use Rattle.dw_entries.specs.Units.{DebugUnit, IsUnit, unit_bytes, AreNulls, nulls_bytes, head_of, Declaration, Context}
use Rattle.dw_entries.specs.Records.{tree_records}
use Rattle.dw_forms.specs.declared.fault.Stop.{Stop}
use Rattle.dw_forms.specs.declared.fault.Stop.TheVariants as stops
use Rattle.dw_forms.specs.Stops.{IfFault}

-- the body spells a tree and nulls, and then the rest; the tree's entries come after the old ones
pub record TreeOf (x : Context) (numbers : ℕ → ℕ) (kind : HeaderKind) (body rest : List ℕ) (at : ℕ)
    (old new : List Record) : Type 0 where
  pub root : Node
  pub is : IsNode x root
  pub tag : fits_tag kind (head_of root).decl.tag ≡ true
  pub nulls : List (List ℕ)
  pub are_nulls : AreNulls nulls
  pub parts : body ≡ (node_bytes root ++ nulls_bytes nulls) ++ rest
  pub records : (unit : ℕ) → new ≡ old ++ tree_records numbers unit (length old) at root

-- the bytes are nulls
abbrev pub AreAllNulls : List ℕ → Type 0
AreAllNulls bytes = (nulls : List (List ℕ)) × AreNulls nulls × (bytes ≡ nulls_bytes nulls)

-- nulls, and then something else
pub record NullsThen (bytes left : List ℕ) : Type 0 where
  pub nulls : List (List ℕ)
  pub are : AreNulls nulls
  pub parts : bytes ≡ nulls_bytes nulls ++ left
  pub more : left ≢ []
  pub other : BeginsNoNull left

-- this holds of the fault, which has no cycle, unless memory ran out
abbrev pub IfPlainFault : (PlainFault → Type 0) → Stop Fault → Type 0
IfPlainFault P = IfFault (IsPlainFault P)

-- what a table's fault is, in the words of all rules
abbrev pub as_broken : Result (List Declaration) AbbrevFault → Result (List Declaration) PlainFault
as_broken (Ok table) = Ok table
as_broken (Err f) = Err (in_table f)

-- reading the table gives this fault, unless memory ran out
abbrev pub BreaksBy : Stop PlainFault → Result (List Declaration) AbbrevFault → Type 0
BreaksBy stops.Memory read = Unit {0}
BreaksBy (stops.Fault b) read = as_broken read ≡ Err b

-- the tables are those of this section, the old ones among them
pub record MoreTables («abbrev» : List ℕ) (old new : AbbrevTables) : Type 0 where
  pub tables : AreTablesOf «abbrev» new
  pub stay : Stay (tables_in old) (tables_in new)

-- a unit begins the bytes, which are at this offset, and what is kept of it comes after the old
pub record UnitTaken («abbrev» rest : List ℕ) (at : ℕ) (old new : Kept) (len : ℕ) : Type 0 where
  pub taken : DebugUnit
  pub is : IsUnit «abbrev» taken
  pub begins : taken.at ≡ at
  pub after : List ℕ
  pub parts : rest ≡ unit_bytes taken ++ after
  pub len_is : len ≡ length (unit_bytes taken)
  pub record_is : UnitRecord
  pub kept : IsRecordOfUnit (tables_in new.tables) record_is
      (record { at = at; first = length old.records.items; unit = taken })
  pub units : new.units.items ≡ old.units.items ++ record_is ∷ []
  pub records : new.records.items ≡ old.records.items
      ++ tree_records (decl_number_in (chain_in (tables_in new.tables) record_is.table)) (length old.units.items)
      (length old.records.items) (at + unit_header_size taken.header.kind) taken.root
  pub tables : AreTablesOf «abbrev» new.tables
  pub stay : Stay (tables_in old.tables) (tables_in new.tables)
