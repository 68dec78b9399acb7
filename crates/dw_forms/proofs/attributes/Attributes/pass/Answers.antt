use Rattle.std.proofs.Common.{arith}
use Rattle.std.proofs.lemmas.Result.{err_from_is_err_and}
use Rattle.dw_forms.proofs.PassSteps.{passes_first, passes_last, some_left, here_addresses, last_less, last_cut, next_number, next_turn, cut_fails, value_fails, value_passes}
use Rattle.dw_forms.proofs.attributes.Attributes.pass.Goals as goal

pub loop-at-init : goal.loop-at-init
loop-at-init c = passes_first c.requires.ends.0 c.requires.ends.1 c.requires.size

pub overflow_sub-at : goal.overflow_sub-at
overflow_sub-at c = let some = some_left c.loop-at.invariant c.loop-at-test.true in omega arith

pub index-here-requires : goal.index-here-requires
index-here-requires c =
    let within = c.loop-at.invariant.within in let some = some_left c.loop-at.invariant c.loop-at-test.true in
    omega arith

pub known-requires-clause-within : goal.known-requires-clause-within
known-requires-clause-within c = here_addresses c.loop-at.invariant c.loop-at-test.true c.index-here.ensures

pub overflow_sub-known : goal.overflow_sub-known
overflow_sub-known c =
    let less = last_less c.loop-at.invariant c.loop-at-test.true c.index-here.ensures c.known-then-here-to.ensures in
    omega arith

-- the values up to the end are cut off together
pub returns-then-here-to : goal.returns-then-here-to
returns-then-here-to c before ends =
    rw (last_cut c.loop-at.invariant c.loop-at-test.true c.index-here.ensures c.known-then-here-to.ensures
    c.known.ensures c.if-here-to.true before ends) c.cut_at.ensures

pub index-varying-requires : goal.index-varying-requires
index-varying-requires c =
    let within = next_number c.loop-at.invariant c.loop-at-test.true c.index-here.ensures in
    omega arith

pub known-requires-in-loop-at-clause-within : goal.known-requires-in-loop-at-clause-within
known-requires-in-loop-at-clause-within c = here_addresses c.loop-at.invariant c.loop-at-test.true c.index-here.ensures

pub known-requires-in-loop-at-2-clause-within : goal.known-requires-in-loop-at-2-clause-within
known-requires-in-loop-at-2-clause-within c =
    let t = next_turn c.loop-at.invariant c.loop-at-test.true c.index-here.ensures c.if-here-to.false
    c.index-varying.ensures in
    t.addresses

pub overflow_sub-known-in-loop-at : goal.overflow_sub-known-in-loop-at
overflow_sub-known-in-loop-at c =
    let t = next_turn c.loop-at.invariant c.loop-at-test.true c.index-here.ensures c.if-here-to.false
    c.index-varying.ensures in
    omega arith

pub returns-in_err-rest : goal.returns-in_err-rest
returns-in_err-rest c before ends =
    let t = next_turn c.loop-at.invariant c.loop-at-test.true c.index-here.ensures c.if-here-to.false
    c.index-varying.ensures in
    let e = err_from_is_err_and c.from_residual.result c.from_residual.ensures.1 in
    rw (e.1, e.2) (cut_fails c.loop-at.invariant t c.known-in-loop-at.ensures c.known-in-loop-at-2.ensures
    c.in_err-rest.ensures before ends)

pub returns-in_err-rest-2 : goal.returns-in_err-rest-2
returns-in_err-rest-2 c before ends =
    let t = next_turn c.loop-at.invariant c.loop-at-test.true c.index-here.ensures c.if-here-to.false
    c.index-varying.ensures in
    let e = err_from_is_err_and c.from_residual-in_err-rest-2.result c.from_residual-in_err-rest-2.ensures.1 in
    rw (e.1, e.2) (value_fails c.loop-at.invariant t c.known-in-loop-at.ensures c.known-in-loop-at-2.ensures
    c.in_ok-rest.ensures c.in_err-rest-2.ensures before ends)

pub loop-at-smaller : goal.loop-at-smaller
loop-at-smaller c =
    let t = next_turn c.loop-at.invariant c.loop-at-test.true c.index-here.ensures c.if-here-to.false
    c.index-varying.ensures in
    omega arith

pub loop-at-preserved : goal.loop-at-preserved
loop-at-preserved c =
    let t = next_turn c.loop-at.invariant c.loop-at-test.true c.index-here.ensures c.if-here-to.false
    c.index-varying.ensures in
    value_passes c.loop-at.invariant t c.known-in-loop-at.ensures c.known-in-loop-at-2.ensures c.in_ok-rest.ensures
    c.in_ok-rest-2.ensures

-- at the list that is asked for nothing is left to pass
pub returns : goal.returns
returns c before ends = passes_last c.loop-at.invariant c.loop-at-test.false before ends
