use Rattle.std.proofs.Common.{rules, get_or, sym, ◌∙◌, arith}
use Rattle.dw_forms.proofs.SpellingSteps.{shifted, next_small, bits_70, step_end, step_on, step_bad, step_cut}
use Rattle.dw_forms.proofs.leb.read_spelling.Goals as goal

pub overflow_add-sum : goal.overflow_add-sum
overflow_add-sum c =
    let byte = get_or c.args.bytes.now c.loop-place.place 0 in
    let s = shifted byte _ _ c.from.ensures c.loop-place.invariant.short in
    let n = next_small byte _ _ c.loop-place.invariant.small in
    let b = bits_70 _ _ c.loop-place.invariant.short n in
    omega arith

pub returns-then-byte-lt128-clause-exact : goal.returns-then-byte-lt128-clause-exact
returns-then-byte-lt128-clause-exact c = search (rules, shifted, step_end)

pub returns-then-byte-lt128-clause-bits : goal.returns-then-byte-lt128-clause-bits
returns-then-byte-lt128-clause-bits c =
    let byte = get_or c.args.bytes.now c.loop-place.place 0 in
    rw (shifted byte _ _ c.from.ensures c.loop-place.invariant.short)
    (bits_70 _ _ c.loop-place.invariant.short
    (next_small byte _ _ c.loop-place.invariant.small))

pub returns-then-place-eq9-clause-exact : goal.returns-then-place-eq9-clause-exact
returns-then-place-eq9-clause-exact c = search (rules, step_bad)

pub loop-place-preserved : goal.loop-place-preserved
loop-place-preserved c = search (rules, shifted, next_small, step_on)

pub returns-clause-exact : goal.returns-clause-exact
returns-clause-exact c = sym (step_cut _ _ _ (omega arith)) ∙ c.loop-place.invariant.same
