use Rattle.std.proofs.Common.{◌≡◌, ◌-◌, ◌++◌, length, replicate}
use Rattle.dw_types.proofs.numbers.Numbers.fill.Given as goal

abbrev pub invariant-loop-self : goal.invariant-loop-self
invariant-loop-self l =
    l.self ++ replicate (l.count - length l.self) l.number
    ≡ l.fn.self ++ replicate (l.count - length l.fn.self) l.number

abbrev pub decreases-loop-self : goal.decreases-loop-self
decreases-loop-self l = l.count - length l.self
