use Rattle.std.proofs.Common.{ℕ, ◌≡◌, ◌<◌, Some, map, slice_get}
use Rattle.dw_forms.specs.declared.abbrev.AttributeSpec.{AttributeSpec}
use Rattle.dw_forms.specs.AttributeLists.{spec_of}
use Rattle.dw_units.specs.BatchSections.{IsAllowed}
use Rattle.dw_units.specs.IndependentBatches.{leaves_by}
use Rattle.dw_units.proofs.batches.refer_at_most.Given as goal

abbrev pub invariant-loop-number : goal.invariant-loop-number
invariant-loop-number l =
    (k : ℕ) (spec : AttributeSpec) → k < l.number → slice_get (map spec_of l.decls.lists.nodes.items) k ≡ Some spec
    → IsAllowed l.most (leaves_by spec.form)
