use Rattle.std.proofs.Common.{◌≡◌, ◌+◌, ◌-◌, ◌/◌, length}
use Rattle.dw_entries.proofs.StartSteps.{HaveStarts}
use Rattle.dw_entries.proofs.starts.read_starts.Given as goal

abbrev pub invariant-loop-number : goal.invariant-loop-number
invariant-loop-number l = record {
  have : HaveStarts l.records l.base l.number l.blocks.items;
  long : length l.blocks.items ≡ (l.end - l.base) / 32 + 1;
}
