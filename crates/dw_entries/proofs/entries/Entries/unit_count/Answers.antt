use Rattle.std.proofs.Common.{rules}
use Rattle.dw_entries.proofs.KeptLaws.{units_counted}
use Rattle.dw_entries.proofs.entries.Entries.unit_count.Goals as goal

pub returns : goal.returns
returns c = search (rules, units_counted)
