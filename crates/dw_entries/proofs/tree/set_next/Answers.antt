use Rattle.std.proofs.Common.{rules}
use Rattle.dw_entries.proofs.LinkLaws.{link_past, link_set}
use Rattle.dw_entries.proofs.tree.set_next.Goals as goal

pub returns-then-at-len : goal.returns-then-at-len
returns-then-at-len c = search (rules, link_set)

pub returns-else-at-len : goal.returns-else-at-len
returns-else-at-len c = search (rules, link_past)
