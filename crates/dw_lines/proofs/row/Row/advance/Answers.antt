use Rattle.std.proofs.Common.{rules, ◌≡◌, ℕ, ◌/◌, ◌%◌, arith}
use Rattle.dw_lines.proofs.row.Row.advance.Goals as goal

by_one : (n most : ℕ) → most ≡ 1 → n / most ≡ n
by_one n most one = rw one (omega arith)

none_left : (n most : ℕ) → most ≡ 1 → n % most ≡ 0
none_left n most one = rw one (omega arith)

pub returns-then-most-eq1 : goal.returns-then-most-eq1
returns-then-most-eq1 c =
    let one : c.args.parameters.now.maximum_operations_per_instruction ≡ 1 = search rules in
    rw (by_one _ _ one, none_left _ _ one) (search rules)
