use Rattle.std.proofs.Common.{◌≡◌, ◌++◌, drop}
use Rattle.dw_cprint.specs.Steps.{parameter_types}
use Rattle.dw_cprint.proofs.reaching.put_parameter_types.Given as goal

abbrev pub invariant-loop-parameter : goal.invariant-loop-parameter
invariant-loop-parameter l =
    l.types.items ++ parameter_types (drop l.parameter-index l.parameters)
    ≡ l.fn.types.items ++ parameter_types l.parameters
