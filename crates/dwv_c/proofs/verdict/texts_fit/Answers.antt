use Rattle.dwv_c.proofs.TextLemmas.{rule_fits, name_fits, section_fits, file_rule_fits, file_name_fits}
use Rattle.dwv_c.proofs.TextLemmas.{first_name_fits, first_rule_fits, first_section_fits}
use Rattle.dwv_c.proofs.verdict.texts_fit.Goals as goal

pub returns-clause-rules : goal.returns-clause-rules
returns-clause-rules c = rule_fits

pub returns-clause-names : goal.returns-clause-names
returns-clause-names c = name_fits

pub returns-clause-sections : goal.returns-clause-sections
returns-clause-sections c = section_fits

pub returns-clause-file_rules : goal.returns-clause-file_rules
returns-clause-file_rules c = file_rule_fits

pub returns-clause-file_names : goal.returns-clause-file_names
returns-clause-file_names c = file_name_fits

pub returns-clause-first_rules : goal.returns-clause-first_rules
returns-clause-first_rules c = first_rule_fits

pub returns-clause-first_names : goal.returns-clause-first_names
returns-clause-first_names c = first_name_fits

pub returns-clause-first_sections : goal.returns-clause-first_sections
returns-clause-first_sections c = first_section_fits
