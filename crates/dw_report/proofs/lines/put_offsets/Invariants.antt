use Rattle.std.proofs.Common.{◌≡◌, ◌++◌, take}
use Rattle.std.specs.List.{flat_map}
use Rattle.dw_report.specs.Lines.{cycle_offset}
use Rattle.dw_report.proofs.lines.put_offsets.Given as goal

abbrev pub invariant-loop-offset : goal.invariant-loop-offset
invariant-loop-offset l = l.text.items ≡ l.fn.text.items ++ flat_map cycle_offset (take l.offset-index l.offsets)
