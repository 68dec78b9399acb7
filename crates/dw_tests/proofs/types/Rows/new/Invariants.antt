use Rattle.std.proofs.Common.{ℕ, ◌<◌, length, slice_index}
use Rattle.dw_types.specs.Graphs.{steps_of, step_at}
use Rattle.dw_tests.specs.Rows.{row_items}
use Rattle.dw_tests.proofs.types.Rows.new.Given as goal

abbrev pub invariant-loop-row : goal.invariant-loop-row
invariant-loop-row l =
    (node k : ℕ) → node < l.row-index → k < length (steps_of (row_items l.fn.rows.items) node)
    → step_at (row_items l.fn.rows.items) node k < l.nodes

abbrev pub invariant-loop-to : goal.invariant-loop-to
invariant-loop-to l = (k : ℕ) → k < l.to-index → slice_index l.to-items k < l.nodes
