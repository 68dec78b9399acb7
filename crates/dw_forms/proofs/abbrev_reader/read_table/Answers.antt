use Rattle.dw_forms.proofs.TableLaws.{table_found_by, table_none_by, table_fails_by}
use Rattle.dw_forms.proofs.abbrev_reader.read_table.Goals as goal

pub returns-clause-found : goal.returns-clause-found
returns-clause-found c = table_found_by c.args.section.now c.args.offset c.table.result c.table.ensures.exact

pub returns-clause-none : goal.returns-clause-none
returns-clause-none c = table_none_by c.args.section.now c.args.offset c.table.result c.table.ensures.exact

pub returns-clause-fault : goal.returns-clause-fault
returns-clause-fault c = table_fails_by c.args.section.now c.args.offset c.requires c.table.result c.table.ensures.exact
