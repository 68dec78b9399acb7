use Rattle.std.proofs.Common.{ℕ, ◌<◌}
use Rattle.dw_elf.specs.Checks.{Passes}
use Rattle.dw_elf.specs.Names.{IsWanted}
use Rattle.dw_elf.specs.Reading.{SlotsUpTo}
use Rattle.dw_elf.proofs.finding.find.Given as goal

abbrev pub invariant-loop-k : goal.invariant-loop-k
invariant-loop-k l =
    record {
      passed : (j : ℕ) → j < l.k → Passes IsWanted l.file j;
      found : SlotsUpTo l.file l.k l.found;
    }
