use Rattle.dw_links.specs.Classes.{ClassFails}
use Rattle.dw_links.proofs.UnitToAll.{NoneBelow, all_units}
use Rattle.dw_links.proofs.class.check_classes.Given as goal

abbrev pub invariant-loop-number : goal.invariant-loop-number
invariant-loop-number l = NoneBelow l.entries (ClassFails (all_units l.entries)) l.number
