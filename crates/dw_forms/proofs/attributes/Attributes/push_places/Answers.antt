use Rattle.std.proofs.Common.{arith}
use Rattle.dw_forms.proofs.PlaceTurns.{for_some, placing_first, placing_next, placing_one}
use Rattle.dw_forms.proofs.attributes.Attributes.push_places.Goals.{then-bits-mask_of-ne0+in_ok-push, else-bits-mask_of-ne0}
use Rattle.dw_forms.proofs.attributes.Attributes.push_places.Goals as goal

pub loop-place-init : goal.loop-place-init
loop-place-init c = placing_first _ _ _

pub loop-place-preserved : goal.loop-place-preserved
loop-place-preserved c =
    let turn = c.loop-place.invariant in
    elim c.if-bits-mask_of-ne0.branch [
      | then-bits-mask_of-ne0+in_ok-push w ↦ rw (w.places-is, w.in_ok-push.ensures.items) (placing_one _
          _ _ _ _ turn _ _
          c.attribute_of-attribute.ensures c.mask_of.ensures (omega (arith, c.loop-place-test.true))
          w.if-bits-mask_of-ne0.true _ (record {
            list_is = w.find-found.ensures.first;
            before = for_some _ w.bytes_before.result w.bytes_before.ensures;
          }))
      | else-bits-mask_of-ne0 w ↦ rw w.places-is (placing_next _ _ _ _
          _ turn _ _ c.attribute_of-attribute.ensures c.mask_of.ensures
          w.if-bits-mask_of-ne0.false)
    ]
