use Rattle.std.proofs.Common.{rules}
use Rattle.dw_links.specs.Targets.{target_of}
use Rattle.dw_links.proofs.UnitToAll.{unit_below}
use Rattle.dw_links.proofs.TargetLemmas.{reach_within}
use Rattle.dw_links.proofs.targets.find_target.Goals as goal

pub reach-requires-clause-unit : goal.reach-requires-clause-unit
reach-requires-clause-unit c = search (rules, unit_below)

pub returns-clause-exact : goal.returns-clause-exact
unfolding target_of
returns-clause-exact c = search (rules)

pub returns-clause-within : goal.returns-clause-within
returns-clause-within c = search (rules, reach_within)

pub returns-in_err-value-clause-exact : goal.returns-in_err-value-clause-exact
unfolding target_of
returns-in_err-value-clause-exact c = search (rules)
