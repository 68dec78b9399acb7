use Rattle.std.proofs.Common.{◌≡◌, length}
use Rattle.dw_cprint.specs.Reach.{FindsMarked}
use Rattle.dw_cprint.proofs.reaching.find_marked.Given as goal

abbrev pub invariant-loop-entry : goal.invariant-loop-entry
invariant-loop-entry l =
    FindsMarked l.marks l.entry l.places.items l.found × (length l.places.items ≡ length l.fn.places.items)
