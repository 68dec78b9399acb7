use Rattle.std.proofs.Common.{rules, ◌≡◌, true, ℤ, pos, ◌+ℤ◌, ◌-ℤ◌, FitsSigned, arith, sym, ◌∙◌}
use Rattle.std.proofs.lemmas.Int.{ints, to_z-of_z}
use mir.Syntax.{w128}
use Rattle.dw_links.specs.Constants.{IsOf64Bits, is_present}
use Rattle.dw_types.proofs.count.count_from.Goals as goal

-- numbers of 64 bits, their difference and one more fit 128 bits
wide : (n : ℤ) → IsOf64Bits n → FitsSigned w128 n
wide n range = omega (arith, ints, range.0, range.1)

wide-difference : (upper lower : ℤ) → IsOf64Bits upper → IsOf64Bits lower → FitsSigned w128 (upper -ℤ lower)
wide-difference upper lower u l = omega (arith, ints, u.0, u.1, l.0, l.1)

wide-count : (upper lower : ℤ) → IsOf64Bits upper → IsOf64Bits lower → FitsSigned w128 ((upper -ℤ lower) +ℤ pos 1)
wide-count upper lower u l = omega (arith, ints, u.0, u.1, l.0, l.1)

pub returns-then-is_present : goal.returns-then-is_present
returns-then-is_present c =
    let given : is_present c.args.count ≡ true = sym c.is_present.ensures ∙ c.if-is_present.true in
    rw given c.number.ensures.value

pub returns-then-not-reads_bounds : goal.returns-then-not-reads_bounds
returns-then-not-reads_bounds c = search rules

pub returns-in_err-upper : goal.returns-in_err-upper
returns-in_err-upper c = search rules

pub returns-in_err-lower : goal.returns-in_err-lower
returns-in_err-lower c = search rules

pub overflow_sub-result : goal.overflow_sub-result
overflow_sub-result c = search (rules, to_z-of_z, wide, wide-difference)

pub overflow_add-result : goal.overflow_add-result
overflow_add-result c = search (rules, to_z-of_z, wide, wide-difference, wide-count)

pub returns : goal.returns
returns c = search (rules, to_z-of_z, wide, wide-difference, wide-count)
