use Rattle.dw_forms.proofs.PassSteps.{Passes}
use Rattle.dw_forms.proofs.attributes.Attributes.pass.Given as goal

abbrev pub invariant-loop-at : goal.invariant-loop-at
invariant-loop-at l = Passes l.self l.to l.version l.address_size l.bytes l.at l.rest

abbrev pub decreases-loop-at : goal.decreases-loop-at
decreases-loop-at l = l.at
