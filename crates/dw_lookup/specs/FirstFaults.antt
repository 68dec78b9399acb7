-- Chapter: the first rule that a file violates, its texts, and its place.
use Rattle.std.specs.Prelude.{ℕ, ◌-◌, ◌^◌, List, codes, min}
use Rattle.dw_elf.specs.RuleTexts as of_file
use Rattle.dw_entries.specs.SectionTexts.{section_text}
use Rattle.dw_forms.specs.Rules as of_entries
use Rattle.dw_lines.specs.LineRules as of_lines
use Rattle.dw_lines.specs.declared.rule.LineRule.{LineRule}
use Rattle.dw_lines.specs.declared.rule.LineRule.TheVariants.{NoFile}
use Rattle.dw_ranges.specs.RangeRules as of_ranges
use Rattle.dw_lookup.specs.declared.first_fault.FirstFault.{FirstFault}
use Rattle.dw_lookup.specs.declared.first_fault.FirstFault.TheVariants.{File, Entries, Lines, Ranges}

-- the code of the rule
abbrev pub code_of : FirstFault → List ℕ
code_of (File f) = of_file.code_text f.rule
code_of (Entries f) = of_entries.code_text f.rule
code_of (Lines f) = of_lines.code_text f.fault.rule
code_of (Ranges f) = of_ranges.code_text f.rule

-- the name of the rule
abbrev pub name_of : FirstFault → List ℕ
name_of (File f) = of_file.name_text f.rule
name_of (Entries f) = of_entries.name_text f.rule
name_of (Lines f) = of_lines.name_text f.fault.rule
name_of (Ranges f) = of_ranges.name_text f.rule

-- the section of the place of a rule on lines
abbrev pub section_of_rule : LineRule → List ℕ
section_of_rule NoFile = codes ".debug_info"
section_of_rule rule = codes ".debug_line"

-- the section of the place, or `file` for a rule of the file. The place of a rule on ranges is that of an entry
abbrev pub section_of : FirstFault → List ℕ
section_of (File f) = codes "file"
section_of (Entries f) = section_text f.section
section_of (Lines f) = section_of_rule f.fault.rule
section_of (Ranges f) = codes ".debug_info"

-- a place as 32 bits, where the greatest number stands for those past it
abbrev pub narrow_place : ℕ → ℕ
narrow_place at = min at (2 ^ 32 - 1)

-- the place: the offset in the section, or the number of a section header for a rule of the file
abbrev pub place_of : FirstFault → ℕ
place_of (File f) = f.section
place_of (Entries f) = f.at
place_of (Lines f) = narrow_place f.fault.at
place_of (Ranges f) = f.at

-- the attribute, 0 for none
abbrev pub attribute_of : FirstFault → ℕ
attribute_of (File f) = 0
attribute_of (Entries f) = f.attribute
attribute_of (Lines f) = f.attribute
attribute_of (Ranges f) = 0
