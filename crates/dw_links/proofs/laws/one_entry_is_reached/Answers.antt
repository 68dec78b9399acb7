use Rattle.dw_entries.proofs.EntryFacts.{entries_rise, entries_of, placed}
use Rattle.dw_links.proofs.TargetLemmas.{there_is, entry_at_is, at_reach_in_unit, reach_in_unit_is, at_type, type_is}
use Rattle.dw_links.proofs.laws.one_entry_is_reached.Goals as goal

pub returns-clause-info : goal.returns-clause-info
returns-clause-info c = λ «abbrev» info units spells unit offset id. (
  there_is (entries_of units) offset id,
  entry_at_is (entries_of units) offset id (entries_rise «abbrev» units spells.are),
)

pub returns-clause-unit : goal.returns-clause-unit
returns-clause-unit c = λ «abbrev» info units spells unit offset id. (
  at_reach_in_unit (entries_of units) (placed units) unit offset id,
  reach_in_unit_is (entries_of units) (placed units) unit offset id (entries_rise «abbrev» units spells.are),
)

pub returns-clause-signature : goal.returns-clause-signature
returns-clause-signature c = λ «abbrev» info units spells distinct unit signature id. (
  at_type (entries_of units) (placed units) signature id,
  type_is (entries_of units) (placed units) signature id (entries_rise «abbrev» units spells.are) distinct,
)
