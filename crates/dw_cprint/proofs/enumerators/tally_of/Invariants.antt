use Rattle.std.proofs.Common.{◌<◌, length}
use Rattle.std.specs.Prelude.{All}
use Rattle.std.specs.List.{filter_map}
use Rattle.dw_types.specs.ChildrenLeft.{children_left}
use Rattle.dw_image.specs.Images.{entries_in}
use Rattle.dw_cprint.specs.Counted.{EnumeratorsSoFar}
use Rattle.dw_cprint.specs.EntryShapes.{enumerator_at, enumerators_in}
use Rattle.dw_cprint.proofs.enumerators.tally_of.Given as goal

abbrev pub invariant-loop-child : goal.invariant-loop-child
invariant-loop-child l = record {
  within : All (λ child. child < length (entries_in l.source.image.now)) (children_left l.child-iterator);
  so_far : EnumeratorsSoFar (enumerators_in l.source.image.now l.fn.id) l.tally
      (filter_map (enumerator_at l.source.image.now) (children_left l.child-iterator));
}
