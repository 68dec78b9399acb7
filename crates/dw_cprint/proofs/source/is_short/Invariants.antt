use Rattle.std.proofs.Common.{◌≡◌, ◌<◌, ◌≤◌, ◌+◌, ◌*◌, length}
use Rattle.std.specs.Prelude.{All, sum_by}
use Rattle.dw_types.specs.ChildrenLeft.{children_left}
use Rattle.dw_image.specs.Images.{entries_in}
use Rattle.dw_cprint.specs.LookUps.{bytes_at, children_bytes}
use Rattle.dw_cprint.proofs.source.is_short.Given as goal

abbrev pub invariant-loop-child : goal.invariant-loop-child
invariant-loop-child l = record {
  within : All (λ child. child < length (entries_in l.image)) (children_left l.child-iterator);
  so_far : l.bytes + sum_by (bytes_at l.image) (children_left l.child-iterator) ≡ children_bytes l.image l.fn.id;
  few : l.bytes ≤ 4 * (l.text_bytes + 16);
}
