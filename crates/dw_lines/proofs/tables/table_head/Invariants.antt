use Rattle.std.proofs.Common.{◌-◌}
use Rattle.dw_lines.specs.Files.{content_format}
use Rattle.dw_lines.specs.Repeats.{times}
use Rattle.dw_lines.proofs.RepeatLaws.{ReadsTimes}
use Rattle.dw_lines.proofs.tables.table_head.Given as goal

abbrev pub invariant-loop : goal.invariant-loop
invariant-loop l =
    ReadsTimes content_format (l.end - l.counter) l.contents.items l.bytes.now
    ((times l.end content_format).read l.initial.bytes.now)
