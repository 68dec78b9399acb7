use Rattle.std.proofs.Common.{length}
use Rattle.dw_entries.specs.Leading.{PassesOver, leading_left, leading_specs}
use Rattle.dw_entries.proofs.leads.Leading.take.Given as goal

abbrev pub invariant-loop-self : goal.invariant-loop-self
invariant-loop-self l =
    PassesOver (leading_left l.initial.self) (leading_left l.self) (leading_specs l.initial.self) (leading_specs l.self)

abbrev pub decreases-loop-self : goal.decreases-loop-self
decreases-loop-self l = length (leading_left l.self)
