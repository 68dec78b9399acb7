use Rattle.std.proofs.Common.{◌≤◌, ◌-◌, length}
use Rattle.dw_forms.specs.ListOffsets.{MoreLists}
use Rattle.dw_forms.specs.Offsets.{AreAlong, AreNew}
use Rattle.dw_forms.specs.TableStarts.{IsDeclAt}
use Rattle.dw_forms.proofs.abbrev_tables.read_front.Given as goal

abbrev pub invariant-loop-decls : goal.invariant-loop-decls
invariant-loop-decls l = record {
  from : l.offset ≤ l.at;
  within : l.at ≤ length l.section;
  more : MoreLists l.section l.fn.lists l.lists;
  along : AreAlong (IsDeclAt l.section l.lists.lists.nodes.items) l.decls.items l.offset l.at;
  new : AreNew l.starts.starts.items l.decls.items;
}

abbrev pub decreases-loop-decls : goal.decreases-loop-decls
decreases-loop-decls l = length l.section - l.at
