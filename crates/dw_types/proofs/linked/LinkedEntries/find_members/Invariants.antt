use Rattle.std.proofs.Common.{◌≡◌, ◌<◌, ◌≤◌, ℕ, false, length}
use Rattle.dw_types.specs.Entries.{entry_in}
use Rattle.dw_types.specs.Held.{entries_held, units_held}
use Rattle.dw_types.specs.Kinds.{has_members}
use Rattle.dw_types.specs.StoredFlags.{flag_at, flag_count}
use Rattle.dw_types.proofs.linked.LinkedEntries.find_members.Given as goal

abbrev pub invariant-loop-node : goal.invariant-loop-node
invariant-loop-node l = record {
  same : units_held l.self ≡ units_held l.fn.self;
  room : length (entries_held l.fn.self) < flag_count l.flags;
  told : (k : ℕ) → k < l.node → flag_at l.flags k ≡ has_members (entry_in (units_held l.fn.self) k);
  unset : (k : ℕ) → l.node ≤ k → flag_at l.flags k ≡ false;
}
