use Rattle.std.proofs.Common.{◌<◌, length}
use Rattle.std.specs.Prelude.{All}
use Rattle.std.specs.List.{filter_map}
use Rattle.dw_types.specs.ChildrenLeft.{children_left}
use Rattle.dw_image.specs.Images.{entries_in}
use Rattle.dw_cprint.specs.Counted.{DimensionsSoFar}
use Rattle.dw_cprint.specs.EntryShapes.{dimension_counts, dimension_at}
use Rattle.dw_cprint.proofs.dimensions.tally_of.Given as goal

abbrev pub invariant-loop-child : goal.invariant-loop-child
invariant-loop-child l = record {
  within : All (λ child. child < length (entries_in l.image)) (children_left l.child-iterator);
  so_far : DimensionsSoFar (dimension_counts l.image l.fn.id) l.tally
      (filter_map (dimension_at l.image) (children_left l.child-iterator));
}
