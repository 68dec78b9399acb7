use Rattle.dw_forms.specs.Suffixes.{numbered}
use Rattle.dw_forms.proofs.PlaceTurns.{Placing}
use Rattle.dw_forms.proofs.attributes.Attributes.push_places.Given as goal

abbrev pub invariant-loop-place : goal.invariant-loop-place
invariant-loop-place l = Placing (numbered l.self) l.bits l.place l.fn.places.items l.places.items
