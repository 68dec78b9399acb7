use Rattle.std.proofs.Common.{◌≡◌, drop}
use Rattle.dw_cprint.specs.Declarations.{is_misplaced}
use Rattle.dw_cprint.proofs.FaultLemmas.{has_spare}
use Rattle.dw_cprint.proofs.refusals.has_misplaced.Given as goal

abbrev pub invariant-loop-k : goal.invariant-loop-k
invariant-loop-k l = has_spare l.typed (drop l.k l.parameters) ≡ is_misplaced l.parameters
