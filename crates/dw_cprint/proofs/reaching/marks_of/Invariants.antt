use Rattle.std.proofs.Common.{◌≡◌, length, take}
use Rattle.dw_cprint.specs.Reach.{AreMarks}
use Rattle.dw_cprint.specs.Steps.{entries_among}
use Rattle.dw_cprint.proofs.reaching.marks_of.Given as goal

abbrev pub invariant-loop-at : goal.invariant-loop-at
invariant-loop-at l =
    AreMarks (entries_among (take l.at-index l.types)) l.marks.items × (length l.marks.items ≡ l.fn.entries)
