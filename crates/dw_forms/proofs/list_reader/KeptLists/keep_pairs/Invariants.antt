use Rattle.std.proofs.Common.{length}
use Rattle.dw_forms.specs.ListOffsets.{ArePlaced, LeadsToList}
use Rattle.dw_forms.specs.Offsets.{Stay}
use Rattle.dw_forms.proofs.list_reader.KeptLists.keep_pairs.Given as goal

abbrev pub invariant-loop-at : goal.invariant-loop-at
invariant-loop-at l = record {
  leads : LeadsToList l.section l.self.lists.nodes.items l.self.starts.starts.items l.self.pairs.items l.offset l.first
      l.end;
  placed : ArePlaced l.section l.self.lists.nodes.items l.self.starts.starts.items l.self.ends.items;
  stay : Stay l.fn.self.lists.nodes.items l.self.lists.nodes.items;
}

abbrev pub decreases-loop-at : goal.decreases-loop-at
decreases-loop-at l = length l.self.pairs.items
