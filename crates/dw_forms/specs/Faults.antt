-- Chapter: the faults of a value whose number can't be read, and of an abbreviation table.
use Rattle.std.specs.Prelude.{ℕ}
use Rattle.dw_forms.specs.declared.leb.NumberFault.{NumberFault}
use Rattle.dw_forms.specs.declared.leb.NumberFault.TheVariants as number
pub use Rattle.dw_forms.specs.declared.value.ValueFault.{ValueFault}
use Rattle.dw_forms.specs.declared.value.ValueFault.TheVariants.{Cut, BadNumber}
use Rattle.dw_forms.specs.declared.rule.Rule.TheVariants.{AbbrevCut, AbbrevNumber}
pub use Rattle.dw_forms.specs.declared.fault.DeclFault.{DeclFault}
pub use Rattle.dw_forms.specs.declared.fault.AbbrevFault.{AbbrevFault}
use Rattle.dw_forms.specs.declared.fault.Stop.{Stop}
use Rattle.dw_forms.specs.declared.fault.Stop.TheVariants as stops

-- a cut number is a cut value, a bad one a bad number
abbrev pub value_fault_of : NumberFault → ValueFault
value_fault_of number.Cut = Cut
value_fault_of number.BadNumber = BadNumber

-- the rule that a number's fault breaks
abbrev pub decl_fault_of : NumberFault → DeclFault
decl_fault_of number.Cut = record { rule = AbbrevCut; attribute = 0 }
decl_fault_of number.BadNumber = record { rule = AbbrevNumber; attribute = 0 }

-- the fault of a declaration whose first byte is at this place
abbrev pub fault_at : ℕ → DeclFault → AbbrevFault
fault_at place f = record { rule = f.rule; at = place; attribute = f.attribute }

-- the error of a table whose declaration at this place can't be read
abbrev pub error_at : ℕ → Stop DeclFault → (Stop AbbrevFault)
error_at place stops.Memory = stops.Memory
error_at place (stops.Fault f) = stops.Fault (fault_at place f)
