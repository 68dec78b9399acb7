use Rattle.std.proofs.Common.{◌-◌, map}
use Rattle.dw_lines.specs.Files.{file_view, table_entry}
use Rattle.dw_lines.specs.Repeats.{times}
use Rattle.dw_lines.proofs.RepeatLaws.{ReadsTimes}
use Rattle.dw_lines.proofs.program.LineSections.entries.Given as goal

abbrev pub invariant-loop : goal.invariant-loop
invariant-loop l = let value = table_entry l.self l.contents.items l.directories in
    ReadsTimes value (l.count - l.counter) (map file_view l.entries.items) l.bytes.now
    ((times l.count value).read l.initial.bytes.now)
