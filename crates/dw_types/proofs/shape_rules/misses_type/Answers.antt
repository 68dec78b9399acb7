use Rattle.std.proofs.Common.{rules}
use Rattle.dw_types.proofs.ShapeLemmas.{none_alone}
use Rattle.dw_types.proofs.shape_rules.misses_type.Goals as goal

pub returns-then-not-stands_alone-clause-misses : goal.returns-then-not-stands_alone-clause-misses
returns-then-not-stands_alone-clause-misses c = search (rules, none_alone)
