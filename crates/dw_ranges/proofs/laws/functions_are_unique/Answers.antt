use Rattle.dw_ranges.proofs.UnitAnswer.{unit_fault_same, unit_functions_or_fault, unit_functions_same}
use Rattle.dw_ranges.proofs.laws.functions_are_unique.Goals as goal

pub returns : goal.returns
returns c = record { one = unit_functions_same; no_fault = unit_functions_or_fault; one_fault = unit_fault_same }
