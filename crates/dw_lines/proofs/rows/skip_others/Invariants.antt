use Rattle.std.proofs.Common.{◌≡◌, ◌-◌}
use Rattle.dw_lines.specs.Opcodes.{operands}
use Rattle.dw_lines.proofs.rows.skip_others.Given as goal

abbrev pub invariant-loop : goal.invariant-loop
invariant-loop l = (operands l.end).read l.bytes ≡ (operands (l.end - l.counter)).read l.rest
