use Rattle.std.proofs.Common.{refl, arith}
use Rattle.dw_forms.proofs.OwnBits.{lacks_is}
use Rattle.dw_forms.proofs.attributes.Attributes.lacks.Goals as goal

pub returns-in-Some : goal.returns-in-Some
returns-in-Some c = lacks_is _ _ _ c.has.ensures

pub returns-in-None : goal.returns-in-None
returns-in-None c = (λ _. rw c.in-None.ensures.none (λ k d less. absurd (omega arith)), λ _. refl)
