use Rattle.std.proofs.Common.{length}
use Rattle.dw_entries.specs.Units.{context_in, numbers_in}
use Rattle.dw_entries.specs.Walk.{walk_of}
use Rattle.dw_entries.proofs.AlongLaws.{Along}
use Rattle.dw_entries.proofs.tree.walk_tree.Given as goal

abbrev pub invariant-loop-inner : goal.invariant-loop-inner
invariant-loop-inner l =
    Along (context_in l.context) (numbers_in l.context) l.fn.unit.header.kind l.start l.body l.fn.records.items l.rest
    (walk_of l.records.items l.outer.items l.inner)

abbrev pub decreases-loop-inner : goal.decreases-loop-inner
decreases-loop-inner l = length l.rest
