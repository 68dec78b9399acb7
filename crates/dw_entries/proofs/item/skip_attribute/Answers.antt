use Rattle.std.proofs.Common.{rules}
use Rattle.dw_entries.proofs.ReadingSteps.{attribute_ends}
use Rattle.dw_entries.proofs.ScanLaws.{rest_of}
use Rattle.dw_entries.proofs.item.skip_attribute.Goals as goal

pub returns-in-Ok : goal.returns-in-Ok
returns-in-Ok c = search (rules, rest_of, attribute_ends)

pub returns-in-Err : goal.returns-in-Err
returns-in-Err c = search (rules, attribute_ends)
