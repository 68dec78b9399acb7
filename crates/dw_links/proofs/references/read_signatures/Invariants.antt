use Rattle.std.proofs.Common.{ℕ, ◌≡◌, ◌<◌, Some, slice_get}
use Rattle.dw_entries.specs.Views.{units_of, PlacedUnit, entries_of, placed}
use Rattle.dw_entries.specs.Failures.{HasNone}
use Rattle.dw_links.specs.References.{AtHeader}
use Rattle.dw_links.specs.SignedTypes.{AreSignedBelow}
use Rattle.dw_links.proofs.references.read_signatures.Given as goal

abbrev pub invariant-loop-number : goal.invariant-loop-number
invariant-loop-number l = record {
  none : (j : ℕ) (u : PlacedUnit) → j < l.number → slice_get (placed (units_of l.entries)) j ≡ Some u
      → HasNone (AtHeader (entries_of (units_of l.entries)) (placed (units_of l.entries)) j u);
  types : AreSignedBelow (entries_of (units_of l.entries)) (placed (units_of l.entries)) l.number l.signatures;
}
