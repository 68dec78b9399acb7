use Rattle.std.proofs.Common.{rules}
use Rattle.dw_links.proofs.UnitToAll.{ends_within}
use Rattle.dw_links.proofs.references.UnitLinks.of_unit.Goals as goal

pub returns-clause-within : goal.returns-clause-within
returns-clause-within c = search (rules, ends_within)
