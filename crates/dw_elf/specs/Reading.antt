-- State: what is known while the headers are read: the fields of a section header, and the sections that the headers so
-- far name.
use Rattle.std.specs.Prelude.{◌≡◌, ◌≢◌, ℕ, ◌<◌, ◌≤◌, ◌↔◌, List, length, get_or, Option, Some, None}
use Rattle.std.specs.Borrow.{Bor}
use Rattle.dw_elf.specs.declared.section_table.SectionHeader.{SectionHeader}
use Rattle.dw_elf.specs.declared.rule.ElfRule.{ElfRule}
use Rattle.dw_elf.specs.declared.rule.ElfRule.TheVariants.{NotElf64, NotLinked, SectionTable, NoBits, Compressed}
use Rattle.dw_elf.specs.declared.rule.ElfRule.TheVariants.{SectionRange, TooLarge}
use Rattle.dw_elf.specs.declared.sections.DebugSection.{DebugSection}
use Rattle.dw_elf.specs.declared.sections.OtherSection.{OtherSection}
use Rattle.dw_elf.specs.declared.sections.DebugSection.TheVariants.{Abbrev, Info, Str, LineStr, StrOffsets, Addr}
use Rattle.dw_elf.specs.Limits.{section_limit}
use Rattle.dw_elf.specs.Elf.{name_offset, section_type, section_flags, section_address, section_offset, section_size}
use Rattle.dw_elf.specs.Elf.{section_name, section_bytes}
use Rattle.dw_elf.specs.Names.{name_of, IsNameOf, IsZdebug}
use Rattle.dw_elf.specs.Checks.{IsElf64, IsLinked, HasSectionTable, IsInFile, HasNoBits, IsCompressed}
use Rattle.dw_elf.specs.Checks.{IsTooLarge}

-- these are the fields of section header k
pub record IsHeaderAt (file : List ℕ) (k : ℕ) (header : SectionHeader) : Type 0 where
  pub name : header.name_offset ≡ name_offset file k
  pub kind : header.kind ≡ section_type file k
  pub flags : header.flags ≡ section_flags file k
  pub address : header.address ≡ section_address file k
  pub offset : header.offset ≡ section_offset file k
  pub size : header.size ≡ section_size file k

-- a part of a name decides the same as the name: whether it starts with .zdebug_, and which section it is
pub record StandsFor (part name : List ℕ) : Type 0 where
  pub zdebug : IsZdebug part ↔ IsZdebug name
  pub named : (s : DebugSection) → (part ≡ name_of s) ↔ (name ≡ name_of s)
  pub other : (s : OtherSection) → IsNameOf s part ↔ IsNameOf s name

-- this rule is that of the first check by which a file has no section headers
abbrev pub HasNoHeaders : List ℕ → ElfRule → Type 0
HasNoHeaders file NotElf64 = ¬ IsElf64 file
HasNoHeaders file NotLinked = IsElf64 file × ¬ IsLinked file
HasNoHeaders file SectionTable = IsElf64 file × IsLinked file × ¬ HasSectionTable file
HasNoHeaders file _ = ⊥

-- the bytes of section k may be lent
pub record MayBeLent (file : List ℕ) (k : ℕ) : Type 0 where
  pub bits : ¬ HasNoBits file k
  pub plain : ¬ IsCompressed file k
  pub in_file : IsInFile file k
  pub small : ¬ IsTooLarge file k

-- this rule is that of the first check by which they may not
abbrev pub IsNotLent : List ℕ → ℕ → ElfRule → Type 0
IsNotLent file k NoBits = HasNoBits file k
IsNotLent file k Compressed = ¬ HasNoBits file k × IsCompressed file k
IsNotLent file k SectionRange = ¬ HasNoBits file k × ¬ IsCompressed file k × ¬ IsInFile file k
IsNotLent file k TooLarge = ¬ HasNoBits file k × ¬ IsCompressed file k × IsInFile file k × IsTooLarge file k
IsNotLent file k _ = ⊥

-- the index of a section in what was found
abbrev pub index_of : DebugSection → ℕ
index_of Abbrev = 0
index_of Info = 1
index_of Str = 2
index_of LineStr = 3
index_of StrOffsets = 4
index_of Addr = 5

-- what was found for a section
abbrev pub slot : List (Option (Bor (List ℕ))) → DebugSection → Option (Bor (List ℕ))
slot found s = get_or found (index_of s) None

-- of the headers from 1 on and below k, none has this name, or one alone has it, and these are its bytes,
-- within the limit
abbrev pub IsSlot : List ℕ → ℕ → List ℕ → Option (Bor (List ℕ)) → Type 0
IsSlot file k name None = (j : ℕ) → 0 < j → j < k → section_name file j ≢ name
IsSlot file k name (Some bytes) =
    (j : ℕ) × ((0 < j) × (j < k)) × (section_name file j ≡ name)
    × ((i : ℕ) → 0 < i → i < k → section_name file i ≡ name → i ≡ j)
    × (bytes.now ≡ section_bytes file j) × (length bytes.now ≤ section_limit)

-- what was found is what the headers from 1 on and below k name
abbrev pub SlotsUpTo : List ℕ → ℕ → List (Option (Bor (List ℕ))) → Type 0
SlotsUpTo file k found = (s : DebugSection) → IsSlot file k (name_of s) (slot found s)
