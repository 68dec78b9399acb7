use Rattle.std.proofs.Common.{arith, le-ltb}
use Rattle.dw_forms.proofs.SpellingSteps.{taken_off}
use Rattle.dw_forms.proofs.leb.signed.Goals as goal

pub returns : goal.returns
returns c =
    rw (le-ltb c.args.spelling.last 64 (omega arith))
    (taken_off c.args.spelling.sum c.args.spelling.len c.requires.within c.requires.bits)
