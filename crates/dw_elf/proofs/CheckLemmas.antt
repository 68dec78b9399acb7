-- The checks of the file, of a header and of a section that is looked for, as those of any names that are looked for.
use Rattle.std.proofs.Common.{rules, arith, ℕ, List, refl}
use Rattle.std.proofs.lemmas.Grind.{common_steps}
use Rattle.dw_elf.specs.declared.rule.ElfRule.{ElfRule}
use Rattle.dw_elf.specs.declared.rule.ElfRule.TheVariants as rule
use Rattle.dw_elf.specs.Elf.{IsHeader, section_name}
use Rattle.dw_elf.specs.Names.{IsZdebug}
use Rattle.dw_elf.specs.Checks.{HasHeaders, IsNamed, IsNamedBefore, Passes, NotElf64, NotLinked, SectionTable}
use Rattle.dw_elf.specs.Checks.{SectionName, Zdebug, SectionTwice, NoBits, Compressed, SectionRange, TooLarge}
use Rattle.dw_elf.specs.Reading.{HasNoHeaders, IsNotLent, MayBeLent}
use Rattle.dw_elf.specs.Rules.{FailsAt}

-- the checks of the file pass
pub file_passes : (sought : List ℕ → Type 0) (file : List ℕ) → HasHeaders file → Passes sought file 0
file_passes sought file headers = search rules

-- one of them fails
pub file_fails : (sought : List ℕ → Type 0) (file : List ℕ) (r : ElfRule) → HasNoHeaders file r
    → FailsAt sought file 0 r 0
file_fails sought file rule.NotElf64 why =
    record { check = NotElf64; rule_is = refl; section_is = refl; fails = search rules; before = search rules }
file_fails sought file rule.NotLinked why =
    record {
      check = NotLinked;
      rule_is = refl;
      section_is = refl;
      fails = search rules;
      before = grind (arith, common_steps);
    }
file_fails sought file rule.SectionTable why =
    record {
      check = SectionTable;
      rule_is = refl;
      section_is = refl;
      fails = search rules;
      before = grind (arith, common_steps);
    }
file_fails sought file rule.TooLarge why = elim why [ ]
file_fails sought file rule.SectionName why = elim why [ ]
file_fails sought file rule.SectionRange why = elim why [ ]
file_fails sought file rule.Compressed why = elim why [ ]
file_fails sought file rule.SectionTwice why = elim why [ ]
file_fails sought file rule.NoInfo why = elim why [ ]
file_fails sought file rule.NoBits why = elim why [ ]

-- the name of a header cannot be read
pub name_fails : (sought : List ℕ → Type 0) (file : List ℕ) (k : ℕ) → IsHeader file k → ¬ IsNamed file k
    → FailsAt sought file k rule.SectionName k
name_fails sought file k header not =
    record { check = SectionName; rule_is = refl; section_is = refl; fails = search rules; before = search rules }

-- it says that the section is compressed
pub zdebug_fails : (sought : List ℕ → Type 0) (file : List ℕ) (k : ℕ) → IsHeader file k → IsNamed file k
    → IsZdebug (section_name file k) → FailsAt sought file k rule.Compressed k
zdebug_fails sought file k header named old =
    record { check = Zdebug; rule_is = refl; section_is = refl; fails = search rules; before = search rules }

-- it is that of an earlier section
pub twice_fails : (sought : List ℕ → Type 0) (file : List ℕ) (k : ℕ) → IsHeader file k → IsNamed file k
    → ¬ IsZdebug (section_name file k) → sought (section_name file k) → IsNamedBefore file k
    → FailsAt sought file k rule.SectionTwice k
twice_fails sought file k header named plain wanted before =
    record { check = SectionTwice; rule_is = refl; section_is = refl; fails = search rules; before = search rules }

-- one of the checks of a section that is looked for fails, and none before them does
pub lending_fails : (sought : List ℕ → Type 0) (file : List ℕ) (k : ℕ) (r : ElfRule) → IsHeader file k
    → IsNamed file k → ¬ IsZdebug (section_name file k) → sought (section_name file k) → ¬ IsNamedBefore file k
    → IsNotLent file k r → FailsAt sought file k r k
lending_fails sought file k rule.NoBits header named plain wanted first why =
    record { check = NoBits; rule_is = refl; section_is = refl; fails = search rules; before = search rules }
lending_fails sought file k rule.Compressed header named plain wanted first why =
    record { check = Compressed; rule_is = refl; section_is = refl; fails = search rules; before = search rules }
lending_fails sought file k rule.SectionRange header named plain wanted first why =
    record { check = SectionRange; rule_is = refl; section_is = refl; fails = search rules; before = search rules }
lending_fails sought file k rule.TooLarge header named plain wanted first why =
    record { check = TooLarge; rule_is = refl; section_is = refl; fails = search rules; before = search rules }
lending_fails sought file k rule.NotElf64 header named plain wanted first why = elim why [ ]
lending_fails sought file k rule.NotLinked header named plain wanted first why = elim why [ ]
lending_fails sought file k rule.SectionTable header named plain wanted first why = elim why [ ]
lending_fails sought file k rule.SectionName header named plain wanted first why = elim why [ ]
lending_fails sought file k rule.SectionTwice header named plain wanted first why = elim why [ ]
lending_fails sought file k rule.NoInfo header named plain wanted first why = elim why [ ]

-- all of them pass
pub lending_passes : (sought : List ℕ → Type 0) (file : List ℕ) (k : ℕ) → IsHeader file k → IsNamed file k
    → ¬ IsZdebug (section_name file k) → ¬ IsNamedBefore file k → MayBeLent file k → Passes sought file k
lending_passes sought file k header named plain first lent = search rules
