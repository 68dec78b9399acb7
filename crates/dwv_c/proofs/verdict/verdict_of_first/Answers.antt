use Rattle.dwv_c.proofs.TextLemmas.{first_name_fits, first_rule_fits, first_section_fits}
use Rattle.dwv_c.proofs.verdict.verdict_of_first.Goals as goal

pub with_texts-requires-clause-rule : goal.with_texts-requires-clause-rule
with_texts-requires-clause-rule c = rw c.code.ensures (first_rule_fits _)

pub with_texts-requires-clause-section : goal.with_texts-requires-clause-section
with_texts-requires-clause-section c = rw c.section.ensures (first_section_fits _)

pub with_texts-requires-clause-name : goal.with_texts-requires-clause-name
with_texts-requires-clause-name c = rw c.name.ensures (first_name_fits _)
