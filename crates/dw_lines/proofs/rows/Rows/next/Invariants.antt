use Rattle.std.proofs.Common.{◌≡◌, length}
use Rattle.dw_lines.specs.RowsLeft.{run_left}
use Rattle.dw_lines.proofs.rows.Rows.next.Given as goal

abbrev pub invariant-loop-code : goal.invariant-loop-code
invariant-loop-code l = run_left l.initial.self ≡ run_left l.self

abbrev pub decreases-loop-code : goal.decreases-loop-code
decreases-loop-code l = length l.self.rest.now
