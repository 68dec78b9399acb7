use Rattle.std.proofs.Common.{length}
use Rattle.dw_lines.proofs.tables.+are_valid.Given as goal

abbrev pub decreases-are_valid : goal.decreases-are_valid
decreases-are_valid l = length l.contents.now
