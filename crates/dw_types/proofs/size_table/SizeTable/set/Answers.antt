use Rattle.std.proofs.Common.{rules}
use Rattle.std.proofs.lemmas.List.{map-set}
use Rattle.dw_types.proofs.size_table.SizeTable.set.Goals as goal

pub returns : goal.returns
returns c = search (rules, map-set)
