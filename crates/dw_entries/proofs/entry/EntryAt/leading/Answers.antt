use Rattle.std.proofs.Common.{rules}
use Rattle.dw_entries.proofs.entry.EntryAt.leading.Goals as goal

pub invariant_of-result : goal.invariant_of-result
invariant_of-result c = search (rules)
