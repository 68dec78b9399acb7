use Rattle.std.proofs.Common.{rules, refl}
use Rattle.std.proofs.lemmas.List.{length-map}
use Rattle.dw_forms.proofs.attributes.Attributes.count.Goals as goal

pub returns-in-Some : goal.returns-in-Some
returns-in-Some c = search (rules, length-map)

pub returns-in-None : goal.returns-in-None
returns-in-None c = rw c.in-None.ensures.none refl
