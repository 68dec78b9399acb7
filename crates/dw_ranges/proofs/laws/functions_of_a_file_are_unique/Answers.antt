use Rattle.dw_ranges.proofs.FileAnswer.{file_fault_same, file_or_fault, totals_one, unit_one, units_one}
use Rattle.dw_ranges.proofs.laws.functions_of_a_file_are_unique.Goals as goal

pub returns : goal.returns
returns c = record {
  units = units_one;
  totals = totals_one;
  unit = unit_one;
  no_fault = file_or_fault;
  one_fault = file_fault_same;
}
