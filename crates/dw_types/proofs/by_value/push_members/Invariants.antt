use Rattle.std.proofs.Common.{◌≡◌, ◌++◌}
use Rattle.std.specs.Prelude.{All}
use Rattle.std.specs.List.{flat_map}
use Rattle.dw_types.specs.Held.{entries_held, units_held}
use Rattle.dw_types.specs.Children.{children_of, IsChildOf}
use Rattle.dw_types.specs.ChildrenLeft.{children_left}
use Rattle.dw_types.specs.Steps.{member_step}
use Rattle.dw_types.proofs.by_value.push_members.Given as goal

abbrev pub invariant-loop-child : goal.invariant-loop-child
invariant-loop-child l = record {
  same : units_held l.entries ≡ units_held l.fn.entries;
  are : All (IsChildOf (entries_held l.fn.entries) l.fn.id) (children_left l.child-iterator);
  so_far : l.steps ++ flat_map (member_step (units_held l.fn.entries)) (children_left l.child-iterator)
      ≡ l.fn.steps ++ flat_map (member_step (units_held l.fn.entries))
      (children_of (entries_held l.fn.entries) l.fn.id);
}
