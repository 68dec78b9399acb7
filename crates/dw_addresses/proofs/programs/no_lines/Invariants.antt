use Rattle.std.proofs.Common.{◌≡◌, ℕ, length, get_or, None}
use Rattle.dw_addresses.proofs.programs.no_lines.Given as goal

abbrev pub invariant-loop-unit : goal.invariant-loop-unit
invariant-loop-unit l =
    (length l.of_unit.items ≡ l._unit) × ((unit : ℕ) → get_or l.of_unit.items unit None ≡ None)
