use Rattle.std.proofs.Common.{◌≡◌, ◌++◌, drop}
use Rattle.dw_addresses.specs.Index.{reaches_from}
use Rattle.dw_addresses.proofs.sequence.reaches_of.Given as goal

abbrev pub invariant-loop-sequence : goal.invariant-loop-sequence
invariant-loop-sequence l =
    l.reaches.items ++ reaches_from l.reach (drop l.sequence-index l.sequences) ≡ reaches_from 0 l.sequences
