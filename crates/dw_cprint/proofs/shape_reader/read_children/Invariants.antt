use Rattle.std.proofs.Common.{◌<◌, length}
use Rattle.std.specs.Prelude.{All}
use Rattle.dw_types.specs.ChildrenLeft.{children_left}
use Rattle.dw_image.specs.Images.{entries_in}
use Rattle.dw_cprint.specs.LookUps.{children_at}
use Rattle.dw_cprint.proofs.LookUpLemmas.{KeepsSoFar}
use Rattle.dw_cprint.proofs.shape_reader.read_children.Given as goal

abbrev pub invariant-loop-child : goal.invariant-loop-child
invariant-loop-child g l = record {
  within : All (λ child. child < length (entries_in l.image)) (children_left l.child-iterator);
  so_far : KeepsSoFar (goal.F-post g l.read) (children_at l.image l.fn.id) (children_left l.child-iterator)
      l.kept.items;
}
