-- State: what an iterator over the children of an entry has left.
use Rattle.std.specs.Prelude.{ℕ, List}
use Rattle.dw_entries.specs.Views.{all_entries}
use Rattle.dw_types.specs.Children.{siblings_from}
use Rattle.dw_types.specs.declared.children.Children.{Children}

-- the numbers of the children that are left
abbrev pub children_left : Children → List ℕ
children_left it = siblings_from (all_entries it.entries.now) it.parent it.next
