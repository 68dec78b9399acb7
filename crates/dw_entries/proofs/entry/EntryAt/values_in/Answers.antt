use Rattle.std.proofs.Common.{rules}
use Rattle.dw_entries.proofs.entry.EntryAt.values_in.Goals as goal

pub values_with-requires-clause-specs : goal.values_with-requires-clause-specs
values_with-requires-clause-specs c = search (rules)

pub returns-clause-left : goal.returns-clause-left
returns-clause-left c = search (rules)
