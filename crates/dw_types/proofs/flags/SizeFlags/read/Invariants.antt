use Rattle.std.proofs.Common.{◌≡◌, length}
use Rattle.dw_types.specs.Held.{entries_held, units_held}
use Rattle.dw_types.specs.StepFlags.{is_leaf}
use Rattle.dw_types.proofs.SizeFlagLemmas.{is_member, TellsUpTo}
use Rattle.dw_types.proofs.flags.SizeFlags.read.Given as goal

abbrev pub invariant-loop-node : goal.invariant-loop-node
invariant-loop-node l = record {
  same : units_held l.entries ≡ units_held l.fn.entries;
  leaves : TellsUpTo (length (entries_held l.fn.entries)) (is_leaf (units_held l.fn.entries)) l.leaves l.node;
  members : TellsUpTo (length (entries_held l.fn.entries)) (is_member (units_held l.fn.entries)) l.members l.node;
}
