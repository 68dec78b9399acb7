use Rattle.dwv_c.proofs.CheckLemmas.{told}
use Rattle.dwv_c.proofs.exports.dwv_check_sections.Goals as goal

pub returns : goal.returns
returns c =
    told _ c.count_found.result _ _ _ c.put_verdict.ensures.status c.put_verdict.ensures.verdict
    (c.count_found.ensures _ c.sections_of_six-sections.ensures)
