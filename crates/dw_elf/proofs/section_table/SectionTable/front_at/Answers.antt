use Rattle.std.proofs.Common.{arith}
use Rattle.std.proofs.lemmas.Grind.{common_steps}
use Rattle.std.proofs.lemmas.List.{take_min}
use Rattle.dw_elf.proofs.NameLemmas.{cut_stands, whole_stands, has_text}
use Rattle.dw_elf.proofs.section_table.SectionTable.front_at.Goals as goal

pub returns-in-Some-clause-front : goal.returns-in-Some-clause-front
returns-in-Some-clause-front c =
    cut_stands c.args.self.now.names.now _ c.args.offset _ (grind (arith, common_steps, take_min)) c.in-Some.ensures.0
    c.in-Some.ensures.1

pub returns-in-None-clause-front : goal.returns-in-None-clause-front
returns-in-None-clause-front c =
    whole_stands c.args.self.now.names.now _ c.args.offset (grind (arith, common_steps, take_min)) c.in-None.ensures

pub returns-in-None-clause-ended : goal.returns-in-None-clause-ended
returns-in-None-clause-ended c = has_text _ _ _ c.args.self.now.after_last_zero c.if-offset-self.false
