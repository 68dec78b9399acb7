use Rattle.std.proofs.Common.{ℕ, ◌≢◌, ◌<◌}
use Rattle.dw_elf.specs.Elf.{section_name}
use Rattle.dw_elf.specs.Names.{name_of}
use Rattle.dw_elf.proofs.finding.section_start.Given as goal

abbrev pub invariant-loop-k : goal.invariant-loop-k
invariant-loop-k l = (j : ℕ) → 0 < j → j < l.k → section_name l.file j ≢ name_of l.section
