use Rattle.std.proofs.Common.{length}
use Rattle.dw_entries.specs.ByNumber.{entry_of}
use Rattle.dw_entries.specs.Views.{all_entries, all_units}
use Rattle.dw_entries.specs.ValuesLeft.{values_left}
use Rattle.dw_links.specs.Classes.{ClassFails}
use Rattle.dw_links.proofs.RuleSteps.{Checked, entry_head, values_of}
use Rattle.dw_links.proofs.class.check_entry.Given as goal

abbrev pub invariant-loop-item : goal.invariant-loop-item
invariant-loop-item l =
    Checked (ClassFails (all_units l.entries)) (entry_head (entry_of (all_entries l.entries) l.fn.id))
    (values_of (entry_of (all_entries l.entries) l.fn.id).head) (values_left l.values)

abbrev pub decreases-loop-item : goal.decreases-loop-item
decreases-loop-item l = length (values_left l.values)
