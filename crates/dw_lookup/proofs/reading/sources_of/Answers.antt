use Rattle.dw_lookup.specs.Files.{of_parts}
use Rattle.dw_lookup.proofs.reading.sources_of.Goals as goal

pub returns-in-Err-parts_of-clause-fault : goal.returns-in-Err-parts_of-clause-fault
returns-in-Err-parts_of-clause-fault c =
    of_parts c.in-Ok.image c.in-Err-parts_of.fault c.in-Ok.ensures.image c.in-Err-parts_of.ensures.fault
