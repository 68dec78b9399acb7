-- The texts of a verdict are shorter than their fields.
use Rattle.std.proofs.Common.{rules, ◌≡◌, ℕ, ◌<◌, List, ◌++◌, length, drop, replicate, refl, arith}
use Rattle.std.proofs.lemmas.List.{drop-replicate}
use Rattle.dw_elf.specs.declared.rule.ElfRule.{ElfRule}
use Rattle.dw_elf.specs.declared.rule.ElfRule.TheVariants.{TooLarge}
use Rattle.dw_elf.specs.RuleTexts as elf
use Rattle.dw_entries.specs.declared.fault.Section.{Section}
use Rattle.dw_entries.specs.declared.fault.Section.TheVariants.{Abbrev}
use Rattle.dw_forms.specs.declared.rule.Rule.{Rule}
use Rattle.dw_forms.specs.declared.rule.Rule.TheVariants.{AbbrevCut}
use Rattle.dw_forms.specs.Rules.{code_text, name_text}
use Rattle.dw_entries.specs.SectionTexts.{section_text}
use Rattle.dw_lines.specs.LineRules as of_lines
use Rattle.dw_lines.specs.declared.rule.LineRule.{LineRule}
use Rattle.dw_lines.specs.declared.rule.LineRule.TheVariants.{LineOffset, NoFile}
use Rattle.dw_ranges.specs.RangeRules as of_ranges
use Rattle.dw_ranges.specs.declared.rule.RangeRule.{RangeRule}
use Rattle.dw_ranges.specs.declared.rule.RangeRule.TheVariants.{BadBounds}
use Rattle.dw_lookup.specs.FirstFaults.{code_of, name_of, section_of, section_of_rule}
use Rattle.dw_lookup.specs.declared.first_fault.FirstFault.{FirstFault}
use Rattle.dw_lookup.specs.declared.first_fault.FirstFault.TheVariants.{File, Entries, Lines, Ranges}
use Rattle.dwv_c.specs.declared.verdict.Verdict.{Verdict}
use Rattle.dwv_c.specs.Verdicts.{fault_verdict, field_text}

-- a text over the first of n zero bytes
pub filled : (n : ℕ) (text bytes field : List ℕ) → bytes ≡ text
    → field ≡ bytes ++ drop (length bytes) (replicate n 0) → field ≡ field_text n text
filled n text bytes field same is = search (rules, drop-replicate)

pub with_fields : (at attribute : ℕ) (rule section name r s n : List ℕ) → r ≡ field_text 8 rule
    → s ≡ field_text 16 section
    → n ≡ field_text 24 name
    → ◌≡◌ {A = Verdict} (record {
      units = 0;
      entries = 0;
      types = 0;
      at = at;
      attribute = attribute;
      rule = r;
      section = s;
      name = n;
    }) (fault_verdict at attribute rule section name)
with_fields at attribute rule section name r s n is_r is_s is_n = rw (is_r, is_s, is_n) refl

pub rule_fits : (rule : Rule) → length (code_text rule) < 8
unfolding code_text
rule_fits AbbrevCut = omega arith
rule_fits _ = omega arith

pub name_fits : (rule : Rule) → length (name_text rule) < 24
unfolding name_text
name_fits AbbrevCut = omega arith
name_fits _ = omega arith

pub section_fits : (section : Section) → length (section_text section) < 16
unfolding section_text
section_fits Abbrev = omega arith
section_fits _ = omega arith

pub file_rule_fits : (rule : ElfRule) → length (elf.code_text rule) < 8
unfolding elf.code_text
file_rule_fits TooLarge = omega arith
file_rule_fits _ = omega arith

pub file_name_fits : (rule : ElfRule) → length (elf.name_text rule) < 24
unfolding elf.name_text
file_name_fits TooLarge = omega arith
file_name_fits _ = omega arith

line_rule_fits : (rule : LineRule) → length (of_lines.code_text rule) < 8
unfolding of_lines.code_text
line_rule_fits LineOffset = omega arith
line_rule_fits _ = omega arith

line_name_fits : (rule : LineRule) → length (of_lines.name_text rule) < 24
unfolding of_lines.name_text
line_name_fits LineOffset = omega arith
line_name_fits _ = omega arith

line_section_fits : (rule : LineRule) → length (section_of_rule rule) < 16
line_section_fits NoFile = omega arith
line_section_fits _ = omega arith

range_rule_fits : (rule : RangeRule) → length (of_ranges.code_text rule) < 8
unfolding of_ranges.code_text
range_rule_fits BadBounds = omega arith
range_rule_fits _ = omega arith

range_name_fits : (rule : RangeRule) → length (of_ranges.name_text rule) < 24
unfolding of_ranges.name_text
range_name_fits BadBounds = omega arith
range_name_fits _ = omega arith

pub first_rule_fits : (f : FirstFault) → length (code_of f) < 8
first_rule_fits (File f) = file_rule_fits f.rule
first_rule_fits (Entries f) = rule_fits f.rule
first_rule_fits (Lines f) = line_rule_fits f.fault.rule
first_rule_fits (Ranges f) = range_rule_fits f.rule

pub first_name_fits : (f : FirstFault) → length (name_of f) < 24
first_name_fits (File f) = file_name_fits f.rule
first_name_fits (Entries f) = name_fits f.rule
first_name_fits (Lines f) = line_name_fits f.fault.rule
first_name_fits (Ranges f) = range_name_fits f.rule

pub first_section_fits : (f : FirstFault) → length (section_of f) < 16
first_section_fits (File f) = omega arith
first_section_fits (Entries f) = section_fits f.section
first_section_fits (Lines f) = line_section_fits f.fault.rule
first_section_fits (Ranges f) = omega arith
