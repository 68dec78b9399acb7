-- Chapter: the checks of a file in their order, and when each of them fails, by the names of the sections that are
-- looked for (`sought`). The place of a check is 0 for the file, k for section header k, and the count of the headers
-- for all headers together. Sums are of whole numbers, so none of them wraps.
use Rattle.std.specs.Prelude.{◌≡◌, ◌≢◌, ℕ, ◌+◌, ◌*◌, ◌<◌, ◌≤◌, ◌⊎◌, List, length, take, bit_and}
use Rattle.dw_elf.specs.declared.sections.DebugSection.TheVariants.{Info}
use Rattle.dw_elf.specs.Limits.{section_limit}
use Rattle.dw_elf.specs.Elf.{identification, FILE_HEADER_SIZE, file_type, ET_EXEC, ET_DYN, table_offset, header_size}
use Rattle.dw_elf.specs.Elf.{section_count, names_index, SECTION_HEADER_SIZE, IsHeader, HasText, name_offset}
use Rattle.dw_elf.specs.Elf.{section_type, SHT_NOBITS, section_flags, SHF_COMPRESSED, section_offset, section_size}
use Rattle.dw_elf.specs.Elf.{name_table, section_name}
use Rattle.dw_elf.specs.Names.{name_of, IsWanted, IsZdebug}

-- a whole file header, with the identification of a 64-bit little-endian file
abbrev pub IsElf64 : List ℕ → Type 0
IsElf64 file = (FILE_HEADER_SIZE ≤ length file) × (take 7 file ≡ identification)

-- the file is linked: an executable or a shared object
abbrev pub IsLinked : List ℕ → Type 0
IsLinked file = (file_type file ≡ ET_EXEC) ⊎ (file_type file ≡ ET_DYN)

-- the bytes of section k are in the file
abbrev pub IsInFile : List ℕ → ℕ → Type 0
IsInFile file k = section_offset file k + section_size file k ≤ length file

-- section k takes no bytes in the file
abbrev pub HasNoBits : List ℕ → ℕ → Type 0
HasNoBits file k = section_type file k ≡ SHT_NOBITS

-- there are section headers, of 64 bytes each, all in the file, and one of them other than number 0 is that
-- of the name table, whose bytes are in the file
pub record HasSectionTable (file : List ℕ) : Type 0 where
  pub size : header_size file ≡ SECTION_HEADER_SIZE
  pub some : 0 < section_count file
  pub in_file : table_offset file + SECTION_HEADER_SIZE * section_count file ≤ length file
  pub names : IsHeader file (names_index file)
  pub names_have_bits : ¬ HasNoBits file (names_index file)
  pub names_in_file : IsInFile file (names_index file)

-- the checks of the file pass: it has section headers
pub record HasHeaders (file : List ℕ) : Type 0 where
  pub elf : IsElf64 file
  pub linked : IsLinked file
  pub table : HasSectionTable file

-- the name of section k starts inside the name table, and a zero byte ends it there
abbrev pub IsNamed : List ℕ → ℕ → Type 0
IsNamed file k = HasText (name_table file) (name_offset file k)

-- a lower header than k has the same name
abbrev pub IsNamedBefore : List ℕ → ℕ → Type 0
IsNamedBefore file k = (j : ℕ) × (0 < j) × (j < k) × (section_name file j ≡ section_name file k)

-- the bytes of section k are compressed
abbrev pub IsCompressed : List ℕ → ℕ → Type 0
IsCompressed file k = bit_and (section_flags file k) SHF_COMPRESSED ≢ 0

-- section k has more bytes than the limit of a section
abbrev pub IsTooLarge : List ℕ → ℕ → Type 0
IsTooLarge file k = section_limit < section_size file k

-- no header has this name
abbrev pub HasNoSection : List ℕ → List ℕ → Type 0
HasNoSection file name = (j : ℕ) → IsHeader file j → section_name file j ≢ name

-- the checks, each by what it finds wrong
pub data Check : Type 0 where
  NotElf64 : Check
  NotLinked : Check
  SectionTable : Check
  SectionName : Check
  Zdebug : Check
  SectionTwice : Check
  NoBits : Check
  Compressed : Check
  SectionRange : Check
  TooLarge : Check
  NoInfo : Check

-- the turn of a check among those of one place: the check of the lower turn comes first
abbrev pub turn : Check → ℕ
turn NotElf64 = 0
turn NotLinked = 1
turn SectionTable = 2
turn SectionName = 3
turn Zdebug = 4
turn SectionTwice = 5
turn NoBits = 6
turn Compressed = 7
turn SectionRange = 8
turn TooLarge = 9
turn NoInfo = 10

-- a check fails at place k: the first three look at the file, the next two at every header, the five that
-- follow at the headers of the sections that are looked for, and the last, if .debug_info is, at all headers together
abbrev pub CheckFails : (List ℕ → Type 0) → List ℕ → Check → ℕ → Type 0
CheckFails sought file NotElf64 k = (k ≡ 0) × ¬ IsElf64 file
CheckFails sought file NotLinked k = (k ≡ 0) × ¬ IsLinked file
CheckFails sought file SectionTable k = (k ≡ 0) × ¬ HasSectionTable file
CheckFails sought file SectionName k = IsHeader file k × ¬ IsNamed file k
CheckFails sought file Zdebug k = IsHeader file k × IsZdebug (section_name file k)
CheckFails sought file SectionTwice k = IsHeader file k × sought (section_name file k) × IsNamedBefore file k
CheckFails sought file NoBits k = IsHeader file k × sought (section_name file k) × HasNoBits file k
CheckFails sought file Compressed k = IsHeader file k × sought (section_name file k) × IsCompressed file k
CheckFails sought file SectionRange k = IsHeader file k × sought (section_name file k) × ¬ IsInFile file k
CheckFails sought file TooLarge k = IsHeader file k × sought (section_name file k) × IsTooLarge file k
CheckFails sought file NoInfo k =
    (k ≡ section_count file) × sought (name_of Info) × HasNoSection file (name_of Info)

-- no check fails at place k
abbrev pub Passes : (List ℕ → Type 0) → List ℕ → ℕ → Type 0
Passes sought file k = (c : Check) → ¬ CheckFails sought file c k

-- no check fails
abbrev pub AllPass : (List ℕ → Type 0) → List ℕ → Type 0
AllPass sought file = (k : ℕ) → Passes sought file k

-- no check fails, where the six sections are looked for
abbrev pub ChecksPass : List ℕ → Type 0
ChecksPass file = AllPass IsWanted file
