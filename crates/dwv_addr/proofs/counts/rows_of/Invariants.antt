use Rattle.std.proofs.Common.{◌≡◌, take}
use Rattle.std.specs.Prelude.{sum_by}
use Rattle.dwv_addr.specs.Sound.{at_most, rows_in}
use Rattle.dwv_addr.proofs.counts.rows_of.Given as goal

abbrev pub invariant-loop-index : goal.invariant-loop-index
invariant-loop-index l = l.count ≡ at_most (sum_by rows_in (take l.index-index l.programs))
