use Rattle.std.proofs.Common.{rules}
use Rattle.dw_elf.specs.Checks.{SectionName}
use Rattle.dw_elf.specs.Names.{IsWanted}
use Rattle.dw_elf.proofs.CheckLemmas.{file_fails}
use Rattle.dw_elf.proofs.finding.section_start.Goals as goal

pub returns-in-Err : goal.returns-in-Err
returns-in-Err c =
    let fails = file_fails IsWanted c.args.file.now c.in-Err.field-0 c.in-Err.ensures.fails in
    absurd (c.requires 0 fails.check fails.fails)

pub returns-in_default : goal.returns-in_default
returns-in_default c = absurd (c.requires c.loop-k.k SectionName (search rules))
