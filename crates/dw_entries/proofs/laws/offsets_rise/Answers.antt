use Rattle.std.proofs.Common.{rules}
use Rattle.dw_entries.proofs.EntryFacts.{entries_rise}
use Rattle.dw_entries.proofs.RunLaws.{one_at}
use Rattle.dw_entries.proofs.laws.offsets_rise.Goals as goal

pub returns-clause-rise : goal.returns-clause-rise
returns-clause-rise c = search (rules, entries_rise)

pub returns-clause-one : goal.returns-clause-one
returns-clause-one c = search (rules, one_at, entries_rise)
