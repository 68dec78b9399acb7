use Rattle.std.proofs.Common.{length}
use Rattle.dw_entries.proofs.ScanLaws.{UptoRest}
use Rattle.dw_entries.proofs.scanning.scan_units.Given as goal

abbrev pub invariant-loop-rest : goal.invariant-loop-rest
invariant-loop-rest l = UptoRest l.section l.info l.base l.rest l.kept

abbrev pub decreases-loop-rest : goal.decreases-loop-rest
decreases-loop-rest l = length l.rest
