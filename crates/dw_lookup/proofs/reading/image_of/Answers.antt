use Rattle.std.proofs.Common.{rules}
use Rattle.dw_lookup.specs.Files.{of_entries, of_file}
use Rattle.dw_lookup.proofs.reading.image_of.Goals as goal

pub returns-in-Err-clause-fault : goal.returns-in-Err-clause-fault
returns-in-Err-clause-fault c = of_file c.in-Err.fault c.in-Err.ensures.fault

pub returns-in-Ok-Fault-clause-fault : goal.returns-in-Ok-Fault-clause-fault
returns-in-Ok-Fault-clause-fault c =
    of_entries c.in-Ok.sections c.in-Ok-Fault.fault c.in-Ok.ensures.passes c.in-Ok.ensures.sections
    (search rules)
