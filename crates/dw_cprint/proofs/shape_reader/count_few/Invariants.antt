use Rattle.std.proofs.Common.{◌≤◌}
use Rattle.dw_cprint.proofs.shape_reader.count_few.Given as goal

abbrev pub invariant-loop-child : goal.invariant-loop-child
invariant-loop-child l = l.count ≤ 16
