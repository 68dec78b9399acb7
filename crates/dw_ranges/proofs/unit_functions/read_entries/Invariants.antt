use Rattle.std.proofs.Common.{◌+◌, ◌≤◌, Result}
use Rattle.std.specs.Prelude.{slice_range}
use Rattle.dw_entries.specs.Views.{all_entries}
use Rattle.dw_ranges.specs.Functions.{AreInside, Known, Reads, known_of}
use Rattle.dw_ranges.specs.declared.fault.RangeFault.{RangeFault}
use Rattle.dw_ranges.proofs.unit_functions.read_entries.Given as goal

abbrev pub invariant-loop-number : goal.invariant-loop-number
invariant-loop-number l =
    AreInside l.known × (l.known.totals.left ≤ l.initial.known.totals.left) × ((r : Result Known RangeFault)
    → Reads l.sections l.unit l.code l.first (known_of l.known) l.number
    (slice_range (all_entries l.entries) l.number l.end) r
    → Reads l.sections l.unit l.code l.first (known_of l.initial.known) (l.first + 1)
    (slice_range (all_entries l.entries) (l.first + 1) l.end) r)
