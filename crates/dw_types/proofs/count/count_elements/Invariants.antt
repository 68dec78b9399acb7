use Rattle.std.proofs.Common.{◌≡◌, ◌^◌, ◌||◌, map}
use Rattle.std.specs.Prelude.{All}
use Rattle.std.specs.List.{list_any}
use Rattle.dw_types.specs.Held.{entries_held, units_held}
use Rattle.dw_types.specs.Children.{children_of, IsChildOf}
use Rattle.dw_types.specs.ChildrenLeft.{children_left}
use Rattle.dw_types.specs.Entries.{entry_in}
use Rattle.dw_types.specs.Kinds.{is_subrange}
use Rattle.dw_types.specs.Sizes.{factor_of, product_of, times}
use Rattle.dw_types.specs.SizeTables.{cap_size}
use Rattle.dw_types.proofs.count.count_elements.Given as goal

abbrev pub invariant-loop-child : goal.invariant-loop-child
invariant-loop-child l = record {
  same : units_held l.entries ≡ units_held l.fn.entries;
  are : All (IsChildOf (entries_held l.fn.entries) l.fn.id) (children_left l.child-iterator);
  capped : l.product ≡ cap_size (2 ^ 63) l.product;
  product : cap_size (2 ^ 63)
      (times l.product (product_of (map (factor_of (units_held l.fn.entries)) (children_left l.child-iterator))))
      ≡ cap_size (2 ^ 63) (product_of
      (map (factor_of (units_held l.fn.entries)) (children_of (entries_held l.fn.entries) l.fn.id)));
  dimension : (l.has_dimension
      || list_any (λ child. is_subrange (entry_in (units_held l.fn.entries) child)) (children_left l.child-iterator))
      ≡ list_any (λ child. is_subrange (entry_in (units_held l.fn.entries) child))
      (children_of (entries_held l.fn.entries) l.fn.id);
}
