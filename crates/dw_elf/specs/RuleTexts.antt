-- Chapter: the codes and the names of the rules, as reports print them.
-- Its equations are made by docs/make-rules.py from docs/rules.tsv.
use Rattle.std.specs.Prelude.{ℕ, List, codes}
use Rattle.dw_elf.specs.declared.rule.ElfRule.{ElfRule}
use Rattle.dw_elf.specs.declared.rule.ElfRule.TheVariants.{TooLarge, NotElf64, NotLinked, SectionTable, SectionName}
use Rattle.dw_elf.specs.declared.rule.ElfRule.TheVariants.{SectionRange, Compressed, SectionTwice, NoInfo, NoBits}

-- the code of a rule, which is the letter of its group and its number there, and its name, which is its variant's
abbrev pub texts : ElfRule → List ℕ × List ℕ
texts TooLarge = (codes "E1", codes "TooLarge")
texts NotElf64 = (codes "E2", codes "NotElf64")
texts NotLinked = (codes "E3", codes "NotLinked")
texts SectionTable = (codes "E4", codes "SectionTable")
texts SectionName = (codes "E5", codes "SectionName")
texts SectionRange = (codes "E6", codes "SectionRange")
texts Compressed = (codes "E7", codes "Compressed")
texts SectionTwice = (codes "E8", codes "SectionTwice")
texts NoInfo = (codes "E9", codes "NoInfo")
texts NoBits = (codes "E10", codes "NoBits")

-- the code of a rule
unfoldable pub code_text : ElfRule → List ℕ
code_text rule = (texts rule).0

-- the name of a rule
unfoldable pub name_text : ElfRule → List ℕ
name_text rule = (texts rule).1
