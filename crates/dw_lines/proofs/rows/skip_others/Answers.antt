use Rattle.std.proofs.Common.{◌≡◌, ◌<◌, ◌≤◌, ◌+◌, ◌-◌, ◌∙◌, ℕ, List, length, Option, None, Some, Bor, arith, refl, rules, sym}
use Rattle.std.specs.List.{HoldsAt, slice_get}
use Rattle.std.specs.Option.{MatchOption, option_copied, unwrap_or}
use Rattle.std.proofs.lemmas.Option.{slice_get_past, unwrap_or-slice_get}
use Rattle.dw_lines.proofs.OpcodeSteps.{more_operands}
use Rattle.dw_lines.specs.Opcodes.{count_in, operands}
use Rattle.dw_lines.proofs.rows.skip_others.Goals as goal

-- the count at a place, or 0 past the last
count_at : (lengths : List ℕ) (k : ℕ) (o : Option (Bor ℕ))
    → MatchOption o (length lengths ≤ k) (λ x. (k < length lengths) × HoldsAt (λ y. x.now ≡ y) lengths k)
    → unwrap_or (slice_get lengths k) 0 ≡ unwrap_or (option_copied o) 0
count_at lengths k None past = rw (slice_get_past lengths k past) refl
count_at lengths k (Some x) here = unwrap_or-slice_get lengths k 0 ∙ sym (here.1 0)

pub returns-in_err-take_uleb : goal.returns-in_err-take_uleb
returns-in_err-take_uleb c =
    let count : count_in c.args.lengths.now c.args.code ≡ c.unwrap_or-end.result =
    rw (c.unwrap_or-end.ensures, c.copied.ensures)
    (count_at c.args.lengths.now (c.args.code - 1) c.get.result (rw c.from.ensures at c.get.ensures.lookup.3)) in
    let left = c.unwrap_or-end.result - (c.loop.counter + 1) in
    rw (count, c.loop.invariant ∙ more_operands _ left c.loop.rest.now (omega arith)) (search rules)

pub loop-preserved : goal.loop-preserved
loop-preserved c =
    let left = c.unwrap_or-end.result - (c.loop.counter + 1) in
    c.loop.invariant ∙ more_operands _ left c.loop.rest.now (omega arith) ∙ rw c.in_ok-take_uleb.ensures.exact refl

pub returns : goal.returns
unfolding operands
returns c =
    let count : count_in c.args.lengths.now c.args.code ≡ c.unwrap_or-end.result =
    rw (c.unwrap_or-end.ensures, c.copied.ensures)
    (count_at c.args.lengths.now (c.args.code - 1) c.get.result (rw c.from.ensures at c.get.ensures.lookup.3)) in
    let none : c.unwrap_or-end.result - c.loop.counter ≡ 0 = omega arith in
    rw count (c.loop.invariant ∙ rw none refl)
