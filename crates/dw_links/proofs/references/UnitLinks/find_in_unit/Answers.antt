use Rattle.std.proofs.Common.{rules}
use Rattle.dw_entries.proofs.EntryFacts.{entries_rise}
use Rattle.dw_links.proofs.TargetLemmas.{reach_in_unit_answer}
use Rattle.dw_links.proofs.references.UnitLinks.find_in_unit.Goals as goal

pub returns : goal.returns
returns c = search (rules, reach_in_unit_answer, entries_rise)
