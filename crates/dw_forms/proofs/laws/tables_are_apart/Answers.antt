use Rattle.dw_forms.specs.Abbrev.{table}
use Rattle.dw_forms.specs.Formats.{apart}
use Rattle.dw_forms.proofs.TableLaws.{table_one_fault}
use Rattle.dw_forms.proofs.laws.tables_are_apart.Goals as goal

pub returns-clause-apart : goal.returns-clause-apart
returns-clause-apart c = apart (table 0)

pub returns-clause-one_fault : goal.returns-clause-one_fault
returns-clause-one_fault c = table_one_fault
