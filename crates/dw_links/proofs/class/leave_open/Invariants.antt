use Rattle.std.proofs.Common.{ℕ, ◌≡◌, ◌<◌, List, Some, map, slice_get}
use Rattle.dw_forms.specs.declared.abbrev.AttributeSpec.{AttributeSpec}
use Rattle.dw_forms.specs.AttributeLists.{spec_of}
use Rattle.dw_entries.specs.Entries.{PlacedUnit}
use Rattle.dw_links.specs.Classes.{ClassFails}
use Rattle.dw_links.specs.RulesOfAttributes.{NeverFailsAt}
use Rattle.dw_links.proofs.class.leave_open.Given as goal

abbrev pub invariant-loop-number : goal.invariant-loop-number
invariant-loop-number l =
    (k : ℕ) (spec : AttributeSpec) → k < l.number → slice_get (map spec_of l.decls.lists.nodes.items) k ≡ Some spec
    → (units : List PlacedUnit) → NeverFailsAt (ClassFails units) spec
