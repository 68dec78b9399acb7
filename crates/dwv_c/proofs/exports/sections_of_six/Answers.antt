use Rattle.std.proofs.Common.{refl}
use Rattle.dwv_c.specs.Verdicts.{large_section}
use Rattle.dwv_c.proofs.exports.sections_of_six.Goals as goal

pub returns-in-Err : goal.returns-in-Err
returns-in-Err c = rw c.verdict_of_large.ensures (large_section _ _ _ _ _ _ (c.in-Err.ensures.too_large.0 refl))
