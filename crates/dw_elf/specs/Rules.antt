-- Chapter: the rule of each check, and the one fault of a file: the first check that fails.
use Rattle.std.specs.Prelude.{◌≡◌, ℕ, ◌<◌, List}
use Rattle.dw_elf.specs.declared.rule.ElfRule.{ElfRule}
use Rattle.dw_elf.specs.declared.rule.ElfRule.TheVariants as rules
use Rattle.dw_elf.specs.declared.fault.ElfFault.{ElfFault}
use Rattle.dw_elf.specs.Checks.{Check, NotElf64, NotLinked, SectionTable, SectionName, Zdebug, SectionTwice, NoBits}
use Rattle.dw_elf.specs.Checks.{Compressed, SectionRange, TooLarge, NoInfo, turn, CheckFails, Passes}
use Rattle.dw_elf.specs.Names.{IsWanted}

-- the rule of a check; the two checks that find compressed bytes have one rule
abbrev pub rule_of : Check → ElfRule
rule_of NotElf64 = rules.NotElf64
rule_of NotLinked = rules.NotLinked
rule_of SectionTable = rules.SectionTable
rule_of SectionName = rules.SectionName
rule_of Zdebug = rules.Compressed
rule_of SectionTwice = rules.SectionTwice
rule_of NoBits = rules.NoBits
rule_of Compressed = rules.Compressed
rule_of SectionRange = rules.SectionRange
rule_of TooLarge = rules.TooLarge
rule_of NoInfo = rules.NoInfo

-- the section number that is named for a check at place k: the header's, or 0 if the check is of the file or of all
-- headers together
abbrev pub section_of : Check → ℕ → ℕ
section_of NotElf64 k = 0
section_of NotLinked k = 0
section_of SectionTable k = 0
section_of NoInfo k = 0
section_of _ k = k

-- the first check that fails at place k has this rule and names this section
pub record FailsAt (sought : List ℕ → Type 0) (file : List ℕ) (k : ℕ) (rule : ElfRule) (section : ℕ) : Type 0 where
  pub check : Check
  pub rule_is : rule ≡ rule_of check
  pub section_is : section ≡ section_of check k
  pub fails : CheckFails sought file check k
  pub before : (c : Check) → turn c < turn check → ¬ CheckFails sought file c k

-- the fault of the file: the first check that fails at some place, if all checks pass at every lower place
pub record IsFaultFor (sought : List ℕ → Type 0) (file : List ℕ) (fault : ElfFault) : Type 0 where
  pub place : ℕ
  pub first : FailsAt sought file place fault.rule fault.section
  pub below : (j : ℕ) → j < place → Passes sought file j

-- the fault of the file, where the six sections are looked for
abbrev pub IsFault : List ℕ → ElfFault → Type 0
IsFault file fault = IsFaultFor IsWanted file fault
