use Rattle.dwv_c.proofs.TextLemmas.{name_fits, rule_fits, section_fits}
use Rattle.dwv_c.proofs.verdict.verdict_of_fault.Goals as goal

pub with_texts-requires-clause-rule : goal.with_texts-requires-clause-rule
with_texts-requires-clause-rule c = rw c.code.ensures (rule_fits _)

pub with_texts-requires-clause-section : goal.with_texts-requires-clause-section
with_texts-requires-clause-section c = rw c.name.ensures (section_fits _)

pub with_texts-requires-clause-name : goal.with_texts-requires-clause-name
with_texts-requires-clause-name c = rw c.name-2.ensures (name_fits _)
