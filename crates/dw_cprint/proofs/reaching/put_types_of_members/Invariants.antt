use Rattle.std.proofs.Common.{◌≡◌, ◌++◌, ◌<◌, length}
use Rattle.std.specs.Prelude.{All}
use Rattle.std.specs.List.{filter_map}
use Rattle.dw_types.specs.ChildrenLeft.{children_left}
use Rattle.dw_image.specs.Images.{entries_in}
use Rattle.dw_cprint.specs.EntryShapes.{member_at, members_in}
use Rattle.dw_cprint.specs.Steps.{member_types}
use Rattle.dw_cprint.proofs.reaching.put_types_of_members.Given as goal

abbrev pub invariant-loop-child : goal.invariant-loop-child
invariant-loop-child l = record {
  within : All (λ child. child < length (entries_in l.image)) (children_left l.child-iterator);
  so_far : l.types.items ++ member_types (filter_map (member_at l.image) (children_left l.child-iterator))
      ≡ l.initial.types.items ++ member_types (members_in l.image l.fn.id);
}
