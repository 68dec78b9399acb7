-- Laws: reading an abbreviation table from left to right agrees with the grammar (DWARF 5, 7.5.3); the function
-- `tables_are_read_by_grammar` has the proof.
use Rattle.std.specs.Prelude.{◌≡◌, ◌↔◌, ℕ, ◌≤◌, List, length, drop, Ok, Err}
use Rattle.dw_forms.specs.declared.fault.AbbrevFault.{AbbrevFault}
use Rattle.dw_forms.specs.Abbrev.{Declaration, Decls, TableFails}
use Rattle.dw_forms.specs.AbbrevReading.{table_at}
use Rattle.dw_forms.specs.Front.{BeginsWith, BeginsWithNone}

-- the section spells these declarations from the offset on, and neither other ones nor in another length
abbrev pub IsTableAt : List ℕ → ℕ → List Declaration → Type 0
IsTableAt section offset ds = (len : ℕ) × BeginsWith Decls (drop offset section) ds len

-- a fault is read there
abbrev pub HasFault : List ℕ → ℕ → Type 0
HasFault section offset = (fault : AbbrevFault) × (table_at section offset ≡ Err fault)

-- a table is read exactly where the section spells it, and a fault exactly where the section spells no table from the
-- offset on; that is the fault that the grammar names
pub record IsReadByGrammar (section : List ℕ) (offset : ℕ) : Type 0 where
  pub table : (ds : List Declaration) → (table_at section offset ≡ Ok ds) ↔ IsTableAt section offset ds
  pub none : HasFault section offset ↔ BeginsWithNone Decls (drop offset section)
  pub fault : offset ≤ length section → (fault : AbbrevFault)
      → (table_at section offset ≡ Err fault) ↔ TableFails section offset fault
