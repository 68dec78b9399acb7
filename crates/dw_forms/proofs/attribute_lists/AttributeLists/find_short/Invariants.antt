use Rattle.std.proofs.Common.{◌≡◌, ◌+◌, ◌≤◌, length}
use Rattle.dw_forms.specs.AttributeLists.{SHORT, numbered_in}
use Rattle.dw_forms.proofs.NodeLaws.{attribute_in}
use Rattle.dw_forms.proofs.attribute_lists.AttributeLists.find_short.Given as goal

abbrev pub invariant-loop-turn : goal.invariant-loop-turn
invariant-loop-turn l =
    let nodes = l.self.nodes.items in
    record {
      within : l.number ≤ length nodes;
      few : l._turn + length (numbered_in nodes l.number) ≤ SHORT;
      same : attribute_in nodes l.number l.attribute ≡ attribute_in nodes l.list l.attribute;
    }
