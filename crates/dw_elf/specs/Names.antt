-- Chapter: the names of the six sections that are read (DWARF 5, 7.5, 7.26 and 7.27), and of others that are read only
-- for those who ask for them (6.2 and 7.28; DWARF 4, 7.23).
use Rattle.std.specs.Prelude.{◌≡◌, ℕ, List, take, codes}
use Rattle.dw_elf.specs.declared.sections.DebugSection.{DebugSection}
use Rattle.dw_elf.specs.declared.sections.DebugSection.TheVariants.{Abbrev, Info, Str, LineStr, StrOffsets, Addr}
use Rattle.dw_elf.specs.declared.sections.OtherSection.{OtherSection}
use Rattle.dw_elf.specs.declared.sections.OtherSection.TheVariants.{Line, RngLists, Ranges}

-- the name that a section header gives to one of the six
abbrev pub name_of : DebugSection → List ℕ
name_of Abbrev = codes ".debug_abbrev"
name_of Info = codes ".debug_info"
name_of Str = codes ".debug_str"
name_of LineStr = codes ".debug_line_str"
name_of StrOffsets = codes ".debug_str_offsets"
name_of Addr = codes ".debug_addr"

-- this is the name of one of the six
abbrev pub IsWanted : List ℕ → Type 0
IsWanted name = (s : DebugSection) × (name ≡ name_of s)

-- the name that a section header gives to one of the others
abbrev pub other_name : OtherSection → List ℕ
other_name Line = codes ".debug_line"
other_name RngLists = codes ".debug_rnglists"
other_name Ranges = codes ".debug_ranges"

-- this is the name of one of the others
abbrev pub IsNameOf : OtherSection → List ℕ → Type 0
IsNameOf section name = name ≡ other_name section

-- a name that starts with .zdebug_, which means that the section's bytes are compressed in an older way
abbrev pub IsZdebug : List ℕ → Type 0
IsZdebug name = take 8 name ≡ codes ".zdebug_"
