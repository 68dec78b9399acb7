-- Chapter: the objects of a report in JSON.
use Rattle.std.specs.Prelude.{ℕ, true, false, List, [], map, codes}
use Rattle.serde_json.specs.Data.{Data, number, unsigned, string, boolean, array, object, member, no_members}
use Rattle.serde_json.specs.View.{items_of}
use Rattle.serde_json.specs.Written.{compact_text}
use Rattle.dw_elf.specs.declared.fault.ElfFault.{ElfFault}
use Rattle.dw_elf.specs.RuleTexts as elf
use Rattle.dw_entries.specs.declared.fault.Fault.{Fault}
use Rattle.dw_forms.specs.Rules.{code_text, name_text}
use Rattle.dw_entries.specs.SectionTexts.{section_text}
use Rattle.dw_report.specs.Lines.{line}

-- a number that is not negative
abbrev pub whole_object : ℕ → Data
whole_object n = number (unsigned n)

-- the counts of sound sections
abbrev pub sound_object : ℕ → ℕ → ℕ → Data
sound_object units entries types =
    object (member (codes "entries") (whole_object entries)
    (member (codes "sound") (boolean true)
    (member (codes "types") (whole_object types)
    (member (codes "units") (whole_object units) no_members))))

-- offsets as numbers
abbrev pub cycle_array : List ℕ → Data
cycle_array cycle = array (items_of (map whole_object cycle))

-- a fault's place, attribute, cycle, name, code and section
abbrev pub fault_members : ℕ → ℕ → Data → List ℕ → List ℕ → List ℕ → Data
fault_members at attribute cycle name rule section =
    object (member (codes "at") (whole_object at)
    (member (codes "attribute") (whole_object attribute)
    (member (codes "cycle") cycle
    (member (codes "name") (string name)
    (member (codes "rule") (string rule)
    (member (codes "section") (string section)
    (member (codes "sound") (boolean false) no_members)))))))

-- a fault of the sections
abbrev pub fault_object : Fault → Data
fault_object f =
    fault_members f.at f.attribute (cycle_array f.cycle.items) (name_text f.rule) (code_text f.rule)
    (section_text f.section)

-- a fault without a cycle
abbrev pub place_object : ℕ → ℕ → List ℕ → List ℕ → List ℕ → Data
place_object at attribute name rule section = fault_members at attribute (cycle_array []) name rule section

-- a fault of the file: its place is a section's number
abbrev pub elf_fault_object : ElfFault → Data
elf_fault_object f =
    place_object f.section 0 (elf.name_text f.rule) (elf.code_text f.rule) (codes "file")

-- an object on a line, with no spaces
abbrev pub object_line : Data → List ℕ
object_line d = line (compact_text d)
