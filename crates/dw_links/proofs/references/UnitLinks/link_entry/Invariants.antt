use Rattle.std.proofs.Common.{◌≡◌, length}
use Rattle.dw_entries.specs.Leading.{leading_left}
use Rattle.dw_links.specs.UnitAtHand.{entries_followed, entry_with}
use Rattle.dw_links.proofs.RuleSteps.{SoFar}
use Rattle.dw_links.proofs.references.UnitLinks.link_entry.Given as goal

abbrev pub invariant-loop-led : goal.invariant-loop-led
invariant-loop-led l = record {
  of : l.declared.entries.now ≡ entries_followed l.self;
  so_far : SoFar (entries_followed l.self) (entry_with l.self l.id) (leading_left l.leading) l.kept;
}

abbrev pub decreases-loop-led : goal.decreases-loop-led
decreases-loop-led l = length (leading_left l.leading)
