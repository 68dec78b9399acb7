use Rattle.std.proofs.Common.{◌≡◌, length, map}
use Rattle.dw_lines.specs.declared.rule.LineRule.TheVariants.{LineCut}
use Rattle.dw_lines.specs.Files.{entries4, entry_or_end, file_view}
use Rattle.dw_lines.proofs.RepeatLaws.{ReadsOn}
use Rattle.dw_lines.proofs.tables.entries4.Given as goal

abbrev pub invariant-loop-entries : goal.invariant-loop-entries
invariant-loop-entries l = record {
  same : l.directories ≡ l.initial.directories;
  goes_on : ReadsOn LineCut (entry_or_end l.initial.directories) (map file_view l.entries.items) l.bytes.now
      ((entries4 l.initial.directories).read l.initial.bytes.now);
}

abbrev pub decreases-loop-entries : goal.decreases-loop-entries
decreases-loop-entries l = length l.bytes.now
