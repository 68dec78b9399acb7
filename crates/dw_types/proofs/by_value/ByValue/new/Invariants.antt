use Rattle.std.proofs.Common.{◌≡◌, length, take}
use Rattle.dw_entries.specs.Views.{all_entries, units_of}
use Rattle.dw_types.specs.Held.{units_held}
use Rattle.dw_types.specs.Kinds.{count_of_types}
use Rattle.dw_types.specs.Packing.{LeadsBelow}
use Rattle.dw_types.specs.Shapes.{fails_shape}
use Rattle.dw_types.specs.StepFlags.{is_leaf}
use Rattle.dw_types.specs.Steps.{by_value}
use Rattle.dw_types.specs.TypeFailures.{NoneFailsBefore}
use Rattle.dw_types.proofs.PackingLemmas.{FillsUpTo}
use Rattle.dw_types.proofs.SizeFlagLemmas.{has_steps, is_member, TellsUpTo}
use Rattle.dw_types.proofs.by_value.ByValue.new.Given as goal

abbrev pub invariant-loop-node : goal.invariant-loop-node
invariant-loop-node l = record {
  fills : FillsUpTo (by_value (units_of l.fn.entries)) l.steps l.ends l.node;
  leads : LeadsBelow l.steps (length (all_entries l.fn.entries));
  same : units_held l.linked ≡ units_of l.fn.entries;
  passed : NoneFailsBefore (fails_shape (units_of l.fn.entries)) l.node;
  types : l.types ≡ count_of_types (take l.node (all_entries l.fn.entries));
  end : l.end ≡ length l.steps;
  with_steps : TellsUpTo (length (all_entries l.fn.entries)) (has_steps (units_of l.fn.entries)) l.with_steps l.node;
  leaves : TellsUpTo (length (all_entries l.fn.entries)) (is_leaf (units_of l.fn.entries)) l.leaves l.node;
  members : TellsUpTo (length (all_entries l.fn.entries)) (is_member (units_of l.fn.entries)) l.members l.node;
}
