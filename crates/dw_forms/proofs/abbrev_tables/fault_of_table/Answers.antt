use Rattle.dw_forms.proofs.StartLaws.{broken_by}
use Rattle.dw_forms.proofs.abbrev_tables.fault_of_table.Goals as goal

pub returns-clause-broken : goal.returns-clause-broken
returns-clause-broken c =
    broken_by c.args.section.now c.args.offset c.in-Err.fault c.requires.offset c.in-Err.ensures.exact
