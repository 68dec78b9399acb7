use Rattle.std.proofs.Common.{refl}
use Rattle.dw_forms.proofs.attributes.Attributes.in_version_4.Goals as goal

pub returns-in-Some : goal.returns-in-Some
returns-in-Some c = c.in-Some.ensures.known.knows.allowed

pub returns-in-None : goal.returns-in-None
returns-in-None c = rw c.in-None.ensures.none refl
