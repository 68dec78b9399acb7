use Rattle.std.proofs.Common.{length}
use Rattle.dw_entries.specs.ByNumber.{entry_of}
use Rattle.dw_entries.specs.Leading.{leading_left}
use Rattle.dw_entries.specs.Views.{all_entries}
use Rattle.dw_links.specs.UnitAtHand.{FailsByText}
use Rattle.dw_links.proofs.RuleSteps.{Checked, entry_head, values_of}
use Rattle.dw_links.proofs.strings.check_entry.Given as goal

abbrev pub invariant-loop-led : goal.invariant-loop-led
invariant-loop-led l =
    Checked (FailsByText l.entries) (entry_head (entry_of (all_entries l.entries) l.fn.id))
    (values_of (entry_of (all_entries l.entries) l.fn.id).head) (leading_left l.leading)

abbrev pub decreases-loop-led : goal.decreases-loop-led
decreases-loop-led l = length (leading_left l.leading)
