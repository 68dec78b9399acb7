use Rattle.std.proofs.Common.{◌≡◌, ◌++◌, length}
use Rattle.dw_lines.specs.Rows.{program_run}
use Rattle.dw_lines.specs.RowsLeft.{run_left}
use Rattle.dw_addresses.proofs.line_index.all_rows.Given as goal

abbrev pub invariant-loop-row : goal.invariant-loop-row
invariant-loop-row l =
    program_run l.program ≡ record { rows = l.rows.items ++ (run_left l.left).rows; fault = (run_left l.left).fault }

abbrev pub decreases-loop-row : goal.decreases-loop-row
decreases-loop-row l = length (run_left l.left).rows
