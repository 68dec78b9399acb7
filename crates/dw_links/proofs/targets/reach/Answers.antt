use Rattle.std.proofs.Common.{rules}
use Rattle.dw_entries.specs.Views.{units_of, entries_of}
use Rattle.dw_entries.proofs.EntryFacts.{entries_rise}
use Rattle.dw_links.proofs.TargetLemmas.{entry_found, reach_in_unit_answer}
use Rattle.dw_links.proofs.targets.reach.Goals as goal

pub returns-in-RefInfo : goal.returns-in-RefInfo
returns-in-RefInfo c =
    let us = units_of c.args.entries.now in
    rw c.in-RefInfo.is (entry_found (entries_of us) c.in-RefInfo.offset c.find.result
    (entries_rise _ us c.args.entries.now.scanned.1.spells.are) c.find.ensures.found c.find.ensures.within
    c.find.ensures.none)

pub returns-in-RefUnit : goal.returns-in-RefUnit
returns-in-RefUnit c = search (rules, reach_in_unit_answer, entries_rise)
