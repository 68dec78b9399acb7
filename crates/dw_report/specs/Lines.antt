-- Chapter: the lines of a report, and the digits of numbers in them.
use Rattle.std.specs.Prelude.{ℕ, nat_lt, if◌then◌else◌, List, [], ◌∷◌, ◌++◌, codes}
use Rattle.std.specs.List.{flat_map}
use Rattle.std.specs.Fmt.{decimal}
use Rattle.dw_elf.specs.declared.fault.ElfFault.{ElfFault}
use Rattle.dw_elf.specs.RuleTexts as elf
use Rattle.dw_entries.specs.declared.fault.Fault.{Fault}
use Rattle.dw_forms.specs.Rules.{code_text, name_text}
use Rattle.dw_entries.specs.SectionTexts.{section_text}
use Rattle.dw_cprint.specs.Digits.{places}

-- the digits of a number of 16 bits, without leading zeros
unfoldable pub hex : ℕ → List ℕ
hex n =
    if nat_lt n 16 then places 1 n
    else if nat_lt n 256 then places 2 n
    else if nat_lt n 4096 then places 3 n
    else places 4 n

-- a text that ends with a line feed
abbrev pub line : List ℕ → List ℕ
line text = text ++ 10 ∷ []

-- a number of 32 bits: `0x` and eight digits
unfoldable pub offset_text : ℕ → List ℕ
offset_text n = codes "0x" ++ places 8 n

-- `sound: U units, E entries, T types`
unfoldable pub sound_line : ℕ → ℕ → ℕ → List ℕ
sound_line units entries types =
    line (codes "sound: " ++ decimal units ++ codes " units, " ++ decimal entries ++ codes " entries, "
    ++ decimal types ++ codes " types")

-- `fault RULE NAME`
unfoldable pub rule_part : List ℕ → List ℕ → List ℕ
rule_part code name = codes "fault " ++ code ++ codes " " ++ name

-- `fault RULE NAME at section N`
unfoldable pub elf_fault_line : ElfFault → List ℕ
elf_fault_line f =
    line (rule_part (elf.code_text f.rule) (elf.name_text f.rule) ++ codes " at section " ++ decimal f.section)

-- ` at SECTION+0xOOOOOOOO attribute 0xA`
unfoldable pub place_part : List ℕ → ℕ → ℕ → List ℕ
place_part section at attribute =
    codes " at " ++ section ++ codes "+" ++ offset_text at ++ codes " attribute 0x" ++ hex attribute

-- `fault RULE NAME at SECTION+0xOOOOOOOO attribute 0xA`
unfoldable pub place_line : (code name section : List ℕ) → (at attribute : ℕ) → List ℕ
place_line code name section at attribute = line (rule_part code name ++ place_part section at attribute)

-- an offset of a cycle, after a space
unfoldable pub cycle_offset : ℕ → List ℕ
cycle_offset n = codes " " ++ offset_text n

-- `cycle` and the offsets on a line, if there are any
unfoldable pub cycle_line : List ℕ → List ℕ
cycle_line [] = []
cycle_line (n ∷ ns) = line (codes "cycle" ++ flat_map cycle_offset (n ∷ ns))

-- the line of a fault, and the line of its cycle
unfoldable pub fault_lines : Fault → List ℕ
fault_lines f =
    place_line (code_text f.rule) (name_text f.rule) (section_text f.section) f.at f.attribute
    ++ cycle_line f.cycle.items
