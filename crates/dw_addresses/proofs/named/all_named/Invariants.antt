use Rattle.dw_addresses.specs.Reading.{AllNamed}
use Rattle.dw_addresses.proofs.named.all_named.Given as goal

abbrev pub invariant-loop-number : goal.invariant-loop-number
invariant-loop-number l = AllNamed l.entries l.number l.named.items
