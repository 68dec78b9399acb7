use Rattle.std.proofs.Common.{rules}
use Rattle.dw_image.specs.Headline.{IsFaultOf}
use Rattle.dwv_c.specs.Verdicts.{violates}
use Rattle.dwv_c.proofs.CheckLemmas.{none_given}
use Rattle.dwv_c.proofs.exports.verify_found.Goals as goal

pub returns-in_err-sections : goal.returns-in_err-sections
returns-in_err-sections c g found = search (rules, none_given)

pub returns-in-Ok-Sound : goal.returns-in-Ok-Sound
returns-in-Ok-Sound c g found = record {
  sections = c.in_ok-sections.sections;
  given = rw c.in_ok-sections.was at found;
  image = rw c.in-Ok-Sound.field-0-is at c.in-Ok-Sound.ensures;
}

pub returns-in-Ok-Fault : goal.returns-in-Ok-Fault
returns-in-Ok-Fault c g found =
    let fault : IsFaultOf c.in_ok-sections.sections c.in-Ok-Fault.fault =
    rw c.in-Ok-Fault.field-0-is at c.in-Ok-Fault.ensures in
    rw c.verdict_of_fault.ensures (violates _ _ (rw c.in_ok-sections.was at found) fault)
