-- Chapter: the sections that line programs and range lists are read from, the areas of a file's code (System V ABI,
-- chapter 4), and how many bytes of range lists may be read.
use Rattle.std.specs.Prelude.{◌≡◌, ℕ, ◌+◌, ◌^◌, ◌-◌, ◌<◌, ◌≤◌, ◌↔◌, ◌⊎◌, List, length, min}
use Rattle.dw_elf.specs.Checks.{AllPass}
use Rattle.dw_elf.specs.Elf.{IsCode, section_address, section_size}
use Rattle.dw_elf.specs.Names.{IsNameOf, other_name}
use Rattle.dw_elf.specs.Rules.{IsFaultFor}
use Rattle.dw_elf.specs.Sections.{IsSection}
use Rattle.dw_elf.specs.declared.fault.ElfFault.{ElfFault}
use Rattle.dw_elf.specs.declared.sections.OtherSection.{OtherSection}
use Rattle.dw_elf.specs.declared.sections.OtherSection.TheVariants.{Line, RngLists, Ranges}
use Rattle.dw_elf.specs.declared.sections.Sections.{Sections}
use Rattle.dw_ranges.specs.Areas.{AreAreas, Has}
use Rattle.dw_ranges.specs.declared.bounds.RangeSections.{RangeSections}
use Rattle.dw_ranges.specs.declared.range.Range.{Range}
use Rattle.dw_lookup.specs.declared.parts.Parts.{Parts}

-- no check of the file fails where this section is looked for, and these are its bytes
pub record IsFound (file : List ℕ) (section : OtherSection) (bytes : List ℕ) : Type 0 where
  pub passes : AllPass (IsNameOf section) file
  pub is : IsSection file (other_name section) bytes

-- these are the sections of a file that line programs and range lists are read from, where it has these six
pub record HasParts (file : List ℕ) (s : Sections) (parts : Parts) : Type 0 where
  pub line : IsFound file Line parts.lines.line.now
  pub line_str : parts.lines.line_str ≡ s.line_str
  pub str : parts.lines.str ≡ s.str
  pub rnglists : IsFound file RngLists parts.lists.rnglists.now
  pub ranges : IsFound file Ranges parts.lists.ranges.now

-- the first check of a file that fails where .debug_line is looked for, then .debug_rnglists, then .debug_ranges
abbrev pub PartsFail : List ℕ → ElfFault → Type 0
PartsFail file f = IsFaultFor (IsNameOf Line) file f
    ⊎ (AllPass (IsNameOf Line) file × (IsFaultFor (IsNameOf RngLists) file f
    ⊎ (AllPass (IsNameOf RngLists) file × IsFaultFor (IsNameOf Ranges) file f)))

-- section k is code with an address: from its first one on, and below its end. An end past the greatest address is that
-- address
pub record IsCodeAt (file : List ℕ) (a k : ℕ) : Type 0 where
  pub code : IsCode file k
  pub from : section_address file k ≤ a
  pub below : a < min (section_address file k + section_size file k) (2 ^ 64 - 1)

-- areas of the addresses of a file's code
pub record AreCodeAreas (file : List ℕ) (areas : List Range) : Type 0 where
  pub areas_are : AreAreas areas
  pub same : (a : ℕ) → Has areas a ↔ ((k : ℕ) × IsCodeAt file a k)

-- an area as the pair of its first address and the first after it
abbrev pub pair_of : Range → ℕ × ℕ
pair_of area = (area.low, area.high)

-- how many bytes of range lists may be read: as many as the sections have that name lists and that they are in
abbrev pub budget_of : Sections → RangeSections → ℕ
budget_of s lists =
    min (length s.info.now + length lists.rnglists.now + length lists.ranges.now) (2 ^ 64 - 1)
