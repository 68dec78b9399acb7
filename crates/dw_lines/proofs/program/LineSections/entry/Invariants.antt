use Rattle.std.proofs.Common.{◌≡◌, drop}
use Rattle.dw_lines.specs.Files.{entry, entry_from, file_view}
use Rattle.dw_lines.proofs.program.LineSections.entry.Given as goal

abbrev pub invariant-loop-content : goal.invariant-loop-content
invariant-loop-content l =
    (entry l.self l.contents).read l.initial.bytes.now
    ≡ (entry_from l.self (drop l.content-index l.contents) (file_view l.entry)).read l.bytes.now
