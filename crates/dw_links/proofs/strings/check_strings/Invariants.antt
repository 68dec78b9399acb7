use Rattle.dw_links.proofs.UnitToAll.{NoneBelow, FailsByText, AreContributions}
use Rattle.dw_links.proofs.strings.check_strings.Given as goal

abbrev pub invariant-loop-number : goal.invariant-loop-number
invariant-loop-number l = record {
  texts : AreContributions l.entries l.texts;
  passed : NoneBelow l.entries (FailsByText l.entries) l.number;
}
