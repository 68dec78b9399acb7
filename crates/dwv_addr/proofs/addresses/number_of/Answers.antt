use Rattle.std.proofs.Common.{rules, ◌<◌, ap, ◌∙◌, subst, arith}
use Rattle.std.specs.Char.{digit_value}
use Rattle.dwv_addr.proofs.AddressLemmas.{digit_fits, digit_more}
use Rattle.dwv_addr.proofs.addresses.number_of.Goals as goal

pub overflow_mul-number : goal.overflow_mul-number
overflow_mul-number c =
    let few = c.loop-digit-test.true in
    let short = c.requires in
    let room = digit_fits c.loop-digit.number c.loop-digit.digit-index c.loop-digit.invariant.1
    (omega (arith, few, short)) in
    search (rules, room)

pub overflow_add-number : goal.overflow_add-number
overflow_add-number c =
    let few = c.loop-digit-test.true in
    let short = c.requires in
    let room = digit_fits c.loop-digit.number c.loop-digit.digit-index c.loop-digit.invariant.1
    (omega (arith, few, short)) in
    let low = c.in_ok-value.ensures.value.0 in
    let is = c.in_ok-value.ensures.value.1 in
    let same = c.from-in-loop-digit.ensures in
    search (rules, room)

pub loop-digit-preserved : goal.loop-digit-preserved
loop-digit-preserved c =
    let digits = c.args.digits.now in
    let i = c.loop-digit.digit-index in
    let is = c.from-in-loop-digit.ensures ∙ c.in_ok-value.ensures.value.1 ∙ ap digit_value c.from.ensures in
    let low = subst (λ b. digit_value b < 16) c.from.ensures c.in_ok-value.ensures.value.0 in
    let more = digit_more digits i c.loop-digit.number c.loop-digit-test.true low c.loop-digit.invariant.0
    c.loop-digit.invariant.1 c.loop-digit.invariant.2 in
    rw is more
