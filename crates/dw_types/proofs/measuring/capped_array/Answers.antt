use Rattle.std.proofs.Common.{rules}
use Rattle.dw_types.proofs.ElementCountLemmas.{cap-right}
use Rattle.dw_types.proofs.measuring.capped_array.Goals as goal

pub returns-clause-value : goal.returns-clause-value
returns-clause-value c = search (rules, cap-right)
