use Rattle.std.proofs.Common.{arith}
use Rattle.dw_units.proofs.CountLemmas.{fits_in, found_in, found_by_trees, none_left, none_so_far}
use Rattle.dw_units.proofs.checking.check_batches.Goals as goal

pub loop-k-init : goal.loop-k-init
loop-k-init c = (none_so_far c.args.sections.now, rw c.in-Some.is at c.in_ok-sizes.ensures)

pub verify_next-requires : goal.verify_next-requires
verify_next-requires c =
    fits_in _ _ _ c.loop-k.invariant.0 c.in-Some.sizes.items c.loop-k.k c.index-size.result.now
    (omega (arith, c.len-k-end.ensures, c.loop-k-test.true)) c.index-size.ensures
    c.loop-k.invariant.1

pub returns-in-Err-Fault : goal.returns-in-Err-Fault
returns-in-Err-Fault c =
    found_by_trees _ _ _ c.loop-k.invariant.0 _ _ (rw c.in-Err-Fault.field-0-is at c.in-Err-Fault.ensures.fault) _
    (rw c.in-Err-Fault.field-0-is at c.wholly_found.ensures)

pub returns : goal.returns
returns c =
    found_in _ _ _ c.loop-k.invariant.0
    (none_left c.args.sections.now c.loop-k.at c.in-Some.sizes.items c.loop-k.k
    (omega (arith, c.len-k-end.ensures, c.loop-k-test.false))
    c.loop-k.invariant.1)
