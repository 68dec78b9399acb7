use Rattle.std.proofs.Common.{refl, ◌∙◌}
use Rattle.dw_forms.proofs.NodeLaws.{addresses_less}
use Rattle.dw_forms.proofs.PassSteps.{known_is}
use Rattle.dw_forms.proofs.attributes.Attributes.known.Goals as goal

pub known-requires-clause-within : goal.known-requires-clause-within
known-requires-clause-within c = addresses_less _ _ c.in-Some.ensures.known.knows

pub returns-in-Some : goal.returns-in-Some
returns-in-Some c = c.known.ensures ∙ known_is _ _ _ c.requires c.in-Some.ensures.known.knows

pub returns-in-None : goal.returns-in-None
returns-in-None c = rw c.in-None.ensures.none refl
