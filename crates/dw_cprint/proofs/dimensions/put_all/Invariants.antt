use Rattle.std.proofs.Common.{◌≡◌, ◌<◌, ◌++◌, length}
use Rattle.std.specs.Prelude.{All, flat_map}
use Rattle.std.specs.List.{filter_map}
use Rattle.dw_types.specs.ChildrenLeft.{children_left}
use Rattle.dw_image.specs.Images.{entries_in}
use Rattle.dw_cprint.specs.EntryShapes.{dimension_counts, dimension_at}
use Rattle.dw_cprint.specs.Tokens.{text_of}
use Rattle.dw_cprint.specs.Writing.{count_tokens}
use Rattle.dw_cprint.proofs.dimensions.put_all.Given as goal

abbrev pub invariant-loop-child : goal.invariant-loop-child
invariant-loop-child l = record {
  within : All (λ child. child < length (entries_in l.image)) (children_left l.child-iterator);
  so_far : l.out.items
      ++ text_of (flat_map count_tokens (filter_map (dimension_at l.image) (children_left l.child-iterator)))
      ≡ l.fn.out.items ++ text_of (flat_map count_tokens (dimension_counts l.image l.fn.id));
}
