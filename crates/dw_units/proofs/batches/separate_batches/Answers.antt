use Rattle.std.proofs.Common.{sym}
use Rattle.std.proofs.lemmas.List.{take_rest}
use Rattle.dw_units.proofs.CountLemmas.{next_fits, size_more}
use Rattle.dw_units.proofs.batches.separate_batches.Goals as goal

pub loop-next-init : goal.loop-next-init
loop-next-init c = (
  rw c.new-sizes.ensures.items (sym (take_rest c.args.sections.now.info.now c.args.sections.now.base)),
  c.first_unit-next.ensures,
)

pub loop-next-preserved : goal.loop-next-preserved
loop-next-preserved c =
    let batch = c.first_batch-batch.result in
    rw (c.in_ok-push.ensures.items, take_rest c.loop-next.rest.now batch.size) (
      size_more _ _ _ _ c.loop-next.invariant.0 c.first_batch-batch.ensures.within.1,
      next_fits _ _ _ c.first_batch-batch.ensures.next,
    )
