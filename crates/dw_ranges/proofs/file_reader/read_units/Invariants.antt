use Rattle.dw_ranges.specs.Files.{AreRead}
use Rattle.dw_ranges.proofs.file_reader.read_units.Given as goal

abbrev pub invariant-loop-number : goal.invariant-loop-number
invariant-loop-number l =
    AreRead l.sections l.code l.entries l.budget l.number l.known.totals l.tables.all.items l.tables.spans.items
    l.tables.parts.items
