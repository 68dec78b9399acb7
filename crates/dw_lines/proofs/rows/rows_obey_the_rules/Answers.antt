use Rattle.dw_lines.proofs.RowLaws.{program_good}
use Rattle.dw_lines.proofs.rows.rows_obey_the_rules.Goals as goal

pub returns-clause-files : goal.returns-clause-files
returns-clause-files c = λ p. (program_good p).have_files

pub returns-clause-ascend : goal.returns-clause-ascend
returns-clause-ascend c = λ p. (program_good p).ascend

pub returns-clause-ended : goal.returns-clause-ended
returns-clause-ended c = λ p. (program_good p).all_end
