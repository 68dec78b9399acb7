use Rattle.std.proofs.Common.{◌≡◌, take, sum_by}
use Rattle.dw_cprint.specs.Lengths.{capped, parameter_bytes}
use Rattle.dw_cprint.specs.Summaries.{known_of}
use Rattle.dw_cprint.proofs.lengths.parameters_length.Given as goal

abbrev pub invariant-loop-parameter : goal.invariant-loop-parameter
invariant-loop-parameter l =
    l.bytes ≡ capped (sum_by (parameter_bytes (known_of l.survey)) (take l.parameter-index l.parameters))
