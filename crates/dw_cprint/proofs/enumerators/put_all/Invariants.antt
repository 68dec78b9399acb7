use Rattle.std.proofs.Common.{◌<◌, length}
use Rattle.std.specs.Prelude.{All}
use Rattle.std.specs.List.{filter_map}
use Rattle.dw_types.specs.ChildrenLeft.{children_left}
use Rattle.dw_image.specs.Images.{entries_in}
use Rattle.dw_cprint.specs.EntryShapes.{enumerator_at, enumerators_in}
use Rattle.dw_cprint.specs.Kept.{EnumeratorsLeft}
use Rattle.dw_cprint.proofs.enumerators.put_all.Given as goal

abbrev pub invariant-loop-child : goal.invariant-loop-child
invariant-loop-child l = record {
  within : All (λ child. child < length (entries_in l.source.image.now)) (children_left l.child-iterator);
  so_far : EnumeratorsLeft (enumerators_in l.source.image.now l.fn.id) l.initial.out.items l.some
      (filter_map (enumerator_at l.source.image.now) (children_left l.child-iterator)) l.out.items;
}
