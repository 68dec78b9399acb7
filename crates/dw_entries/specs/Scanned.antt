-- State: what is known of the result of a scan: its units, and what is kept of them and of their entries.
use Rattle.std.specs.Prelude.{◌≡◌, ◌<◌, ℕ, zero, suc, List, [], ◌∷◌, length, map, drop}
use Rattle.std.specs.List.{AllZip}
pub use Rattle.dw_entries.specs.declared.records.Record.{Record}
pub use Rattle.dw_entries.specs.declared.records.UnitRecord.{UnitRecord}
use Rattle.dw_forms.specs.Chains.{chain_in}
use Rattle.dw_forms.specs.declared.decl.Decls.{Decls}
pub use Rattle.dw_forms.specs.KeptDecls.{Tables}
use Rattle.dw_forms.specs.KeptDecls.{table_in, tables_of, decl_number_in}
use Rattle.dw_entries.specs.Units.{DebugUnit, Spells, AreFrom}
use Rattle.dw_entries.specs.Entries.{Entry, entries_of, PlacedUnit, placed}

-- the tables of these declarations
abbrev pub tables_among : Decls → Tables
tables_among decls = tables_of decls.lists.nodes.items decls.kept.items

-- the number of the table of the unit of this number
abbrev pub table_of : List UnitRecord → ℕ → ℕ
table_of [] n = 0
table_of (u ∷ us) zero = u.table
table_of (u ∷ us) (suc n) = table_of us n

-- the numbers of declarations, by units and codes
abbrev pub numbers_of : Tables → List UnitRecord → ℕ → ℕ → ℕ
numbers_of tables units unit = decl_number_in (chain_in tables (table_of units unit))

-- what is kept of an entry: where it is, and the number of its declaration
abbrev pub record_of : (ℕ → ℕ → ℕ) → Entry → Record
record_of numbers e = record {
  at = e.at;
  decl = numbers e.unit e.head.decl.code;
  parent = e.parent;
  next = e.next;
}

-- what is kept of the entries of these units
abbrev pub records_of : (ℕ → ℕ → ℕ) → List DebugUnit → List Record
records_of numbers us = map (record_of numbers) (entries_of us)

-- what is kept of a unit, among these tables: where it is, its header, the number of its table, and its first entry
pub record IsRecordOfUnit (tables : Tables) (r : UnitRecord) (p : PlacedUnit) : Type 0 where
  pub at : r.at ≡ p.at
  pub header : r.header ≡ p.unit.header
  pub within : r.table < length tables
  pub table : table_in tables r.table ≡ p.unit.table
  pub first : r.first ≡ p.first

-- the bytes spell these units from this offset on, and what is kept of them and of their entries is theirs
pub record AreScanned (base : ℕ) («abbrev» info : List ℕ) (tables : Tables) (unit_records : List UnitRecord)
    (records : List Record) (units : List DebugUnit) : Type 0 where
  pub spells : Spells «abbrev» units (drop base info)
  pub are_from : AreFrom base units
  pub kept : AllZip (IsRecordOfUnit tables) unit_records (placed units)
  pub entries : records ≡ records_of (numbers_of tables unit_records) units

-- the units of the sections, of which there is one list at most
abbrev pub Scanned : ℕ → List ℕ → List ℕ → Tables → List UnitRecord → List Record → Type 0
Scanned base «abbrev» info tables unit_records records = (units : List DebugUnit)
    × AreScanned base «abbrev» info tables unit_records records units

-- the units that a scan found
abbrev pub found_units : {base : ℕ} {a : List ℕ} {info : List ℕ} {tables : Tables} {unit_records : List UnitRecord}
    {records : List Record} → Scanned base a info tables unit_records records → List DebugUnit
found_units s = s.0
