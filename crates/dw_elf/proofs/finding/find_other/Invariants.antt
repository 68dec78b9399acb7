use Rattle.std.proofs.Common.{ℕ, ◌<◌}
use Rattle.dw_elf.specs.Checks.{Passes}
use Rattle.dw_elf.specs.Names.{other_name, IsNameOf}
use Rattle.dw_elf.specs.Reading.{IsSlot}
use Rattle.dw_elf.proofs.finding.find_other.Given as goal

abbrev pub invariant-loop-k : goal.invariant-loop-k
invariant-loop-k l =
    record {
      passed : (j : ℕ) → j < l.k → Passes (IsNameOf l.section) l.file j;
      found : IsSlot l.file l.k (other_name l.section) l.found;
    }
