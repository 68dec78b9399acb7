use Rattle.std.proofs.Common.{◌≡◌, ◌≤◌, ◌+◌, ◌-◌, length, drop}
use Rattle.dw_forms.specs.ListOffsets.{IsPairAt}
use Rattle.dw_forms.specs.Offsets.{AreAlong, AreNew}
use Rattle.dw_forms.proofs.list_reader.read_pairs.Given as goal

abbrev pub invariant-loop-bytes : goal.invariant-loop-bytes
invariant-loop-bytes l = record {
  within : l.offset + length l.bytes ≤ length l.section;
  rest : l.bytes ≡ drop (length l.section - length l.bytes) l.section;
  along : AreAlong (IsPairAt l.section) l.pairs.items l.offset (length l.section - length l.bytes);
  new : AreNew l.starts.starts.items l.pairs.items;
}

abbrev pub decreases-loop-bytes : goal.decreases-loop-bytes
decreases-loop-bytes l = length l.bytes
