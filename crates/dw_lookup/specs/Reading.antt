-- State: the first rule that the lines or the ranges of a file violate, as one of the file.
use Rattle.dw_forms.specs.declared.fault.Stop.{Stop}
use Rattle.dw_forms.specs.declared.fault.Stop.TheVariants as stops
use Rattle.dw_addresses.specs.declared.fault.LinesFault.{LinesFault}
use Rattle.dw_ranges.specs.declared.fault.RangeFault.{RangeFault}
use Rattle.dw_lookup.specs.declared.first_fault.FirstFault.{FirstFault}
use Rattle.dw_lookup.specs.declared.first_fault.FirstFault.TheVariants.{Lines, Ranges}

-- of the lines, unless memory ran out
abbrev pub first_of_lines : Stop LinesFault → Stop FirstFault
first_of_lines stops.Memory = stops.Memory
first_of_lines (stops.Fault f) = stops.Fault (Lines f)

-- of the ranges, unless memory ran out
abbrev pub first_of_ranges : Stop RangeFault → Stop FirstFault
first_of_ranges stops.Memory = stops.Memory
first_of_ranges (stops.Fault f) = stops.Fault (Ranges f)
