use Rattle.std.proofs.Common.{rules}
use Rattle.dw_entries.proofs.NullLaws.{tree_end, left_over}
use Rattle.dw_entries.proofs.tree.walk_unit.Goals as goal

pub returns-in-None-clause-tree : goal.returns-in-None-clause-tree
returns-in-None-clause-tree c = search (rules, tree_end)

pub returns-in-Some-clause-fault : goal.returns-in-Some-clause-fault
returns-in-Some-clause-fault c = search (rules, left_over)
