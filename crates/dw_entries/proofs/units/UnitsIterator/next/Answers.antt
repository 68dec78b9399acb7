use Rattle.std.proofs.Common.{rules}
use Rattle.dw_entries.proofs.UnitTurns.{unit_turn, fewer_units, no_units}
use Rattle.dw_entries.proofs.units.UnitsIterator.next.Goals as goal

pub returns-then-self-unit_count-clause-steps : goal.returns-then-self-unit_count-clause-steps
returns-then-self-unit_count-clause-steps c = search (rules, unit_turn)

pub returns-then-self-unit_count-clause-goes : goal.returns-then-self-unit_count-clause-goes
returns-then-self-unit_count-clause-goes c = search (rules, fewer_units)

pub returns-else-self-unit_count-clause-steps : goal.returns-else-self-unit_count-clause-steps
returns-else-self-unit_count-clause-steps c = search (rules, no_units)
