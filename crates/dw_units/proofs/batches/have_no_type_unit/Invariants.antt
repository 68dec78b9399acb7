use Rattle.std.proofs.Common.{ℕ, ◌<◌}
use Rattle.dw_entries.specs.Views.{units_of}
use Rattle.dw_units.proofs.AloneLemmas.{IsNoTypeUnit}
use Rattle.dw_units.proofs.batches.have_no_type_unit.Given as goal

abbrev pub invariant-loop-number : goal.invariant-loop-number
invariant-loop-number l = (k : ℕ) → k < l.number → IsNoTypeUnit (units_of l.entries) k
