use Rattle.std.proofs.Common.{sym, subst, take, get_or, arith}
use Rattle.std.proofs.Math.Seq.{take_all}
use Rattle.std.proofs.lemmas.List.{take_more}
use Rattle.dwv_c.specs.FrameState.{IsAllOf, gathered_arrays}
use Rattle.dwv_c.proofs.FrameLemmas.{gathered_more, gathered_none}
use Rattle.dwv_c.proofs.frames.gather.Goals as goal

pub loop-address-init : goal.loop-address-init
loop-address-init c =
    gathered_none c.args.known.now c.new.result.items c.new-2.result.items c.new-3.result.items c.new.ensures.items
    c.new-2.ensures.items c.new-3.ensures.items

pub loop-address-preserved : goal.loop-address-preserved
loop-address-preserved c =
    let known = c.args.known.now in
    let addresses = c.args.addresses.now in
    let old = c.loop-address.gathered in
    let new = c.push_address.new.gathered in
    let k = c.loop-address.address-index in
    let (found, located, frames, text, are) = c.in_ok-push_address.ensures in
    subst (λ xs. IsAllOf known xs (gathered_arrays new)) (sym (take_more addresses k 0 c.loop-address-test.true))
    (gathered_more known (take k addresses) (get_or addresses k 0) found old.located.items new.located.items
    old.frames.items new.frames.items old.text.items new.text.items c.loop-address.invariant located frames text are)

pub returns : goal.returns
returns c =
    let past = c.loop-address-test.false in
    subst (λ xs. IsAllOf c.args.known.now xs (gathered_arrays c.loop-address.gathered))
    (take_all c.loop-address.address-index c.args.addresses.now (omega (arith, past))) c.loop-address.invariant
