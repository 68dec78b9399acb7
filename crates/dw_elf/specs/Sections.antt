-- Chapter: the bytes of a section by its name, and the six sections of a file.
use Rattle.std.specs.Prelude.{◌≡◌, ◌⊎◌, List, [], ℕ, length, take, drop}
use Rattle.dw_elf.specs.declared.sections.Sections.{Sections}
use Rattle.dw_elf.specs.declared.sections.DebugSection.TheVariants.{Abbrev, Info, Str, LineStr, StrOffsets, Addr}
use Rattle.dw_elf.specs.Elf.{IsHeader, section_name, section_bytes, section_offset}
use Rattle.dw_elf.specs.Names.{name_of}
use Rattle.dw_elf.specs.Checks.{HasNoSection}

-- header k has this name, and no other header has it
pub record HasOne (file name : List ℕ) (k : ℕ) : Type 0 where
  pub header : IsHeader file k
  pub named : section_name file k ≡ name
  pub alone : (j : ℕ) → IsHeader file j → section_name file j ≡ name → j ≡ k

-- the bytes of the section of this name: those of the one header that has it, or none if no header has it
abbrev pub IsSection : List ℕ → List ℕ → List ℕ → Type 0
IsSection file name bytes =
    ((k : ℕ) × HasOne file name k × (bytes ≡ section_bytes file k))
    ⊎ (HasNoSection file name × (bytes ≡ []))

-- the section of this name starts at an offset of the file: the one that its header gives
abbrev pub StartsAt : List ℕ → List ℕ → ℕ → Type 0
StartsAt file name start = (k : ℕ) → HasOne file name k → start ≡ section_offset file k

-- each of the six has the bytes of the section of its name, .debug_info from its start
pub record AreSections (file : List ℕ) (s : Sections) : Type 0 where
  pub abbrev_is : IsSection file (name_of Abbrev) s.abbrev.now
  pub info_is : IsSection file (name_of Info) s.info.now
  pub str_is : IsSection file (name_of Str) s.str.now
  pub line_str_is : IsSection file (name_of LineStr) s.line_str.now
  pub str_offsets_is : IsSection file (name_of StrOffsets) s.str_offsets.now
  pub addr_is : IsSection file (name_of Addr) s.addr.now
  pub base_is : s.base ≡ 0

-- a part of sections: .debug_info up to an offset, read from another one on, and all of the other sections
pub record IsPart (s : Sections) (from to : ℕ) (part : Sections) : Type 0 where
  pub info_is : part.info.now ≡ take to s.info.now
  pub base_is : part.base ≡ from
  pub abbrev_is : part.abbrev ≡ s.abbrev
  pub str_is : part.str ≡ s.str
  pub line_str_is : part.line_str ≡ s.line_str
  pub str_offsets_is : part.str_offsets ≡ s.str_offsets
  pub addr_is : part.addr ≡ s.addr

-- these bytes are in the file from an offset on
abbrev pub IsAt : List ℕ → ℕ → List ℕ → Type 0
IsAt file offset bytes = take (length bytes) (drop offset file) ≡ bytes
