use Rattle.std.proofs.Common.{inr}
use Rattle.dw_addresses.proofs.lines_reader.lines_of_file.Goals as goal

pub returns-clause-fault : goal.returns-clause-fault
returns-clause-fault c = inr (c.in-Ok.lines, c.in-Ok.ensures.found, c.in-Err.ensures.fault)
