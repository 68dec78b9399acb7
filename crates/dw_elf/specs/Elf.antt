-- Chapter: the layout of an ELF-64 file: its header, its section headers, and the names and bytes that these refer to
-- (System V ABI, chapter 4). A file is a list of bytes. Offsets and sizes count bytes, an offset counts from the first
-- byte of the file unless something else is said, and the lowest byte of a number comes first.
use Rattle.std.specs.Prelude.{◌≡◌, ◌≢◌, ℕ, ◌+◌, ◌*◌, ◌-◌, ◌<◌, ◌≤◌, ◌==◌, List, [], ◌∷◌, ◌++◌, length, take, drop}
use Rattle.std.specs.Prelude.{codes, slice_index, bit_and, Contains}
use Rattle.std.specs.List.{before_first}
use Rattle.byteorder.specs.Endian.{little_number}

-- the number in the n bytes at an offset
unfoldable pub number_at : ℕ → List ℕ → ℕ → ℕ
number_at n file offset = little_number n (drop offset file)

-- the text at an offset of some bytes: the bytes from there on, before the first zero byte
abbrev pub string_at : List ℕ → ℕ → List ℕ
string_at bytes offset = before_first (λ b. b == 0) (drop offset bytes)

-- a text starts at an offset inside these bytes, and a zero byte ends it inside them
abbrev pub HasText : List ℕ → ℕ → Type 0
HasText bytes offset = (offset < length bytes) × Contains (drop offset bytes) 0

-- the end is just after the last zero byte, or 0 if no byte is zero: texts start before it
abbrev pub IsAfterLastZero : List ℕ → ℕ → Type 0
IsAfterLastZero bytes end =
    (end ≤ length bytes) × (0 < end → slice_index bytes (end - 1) ≡ 0)
    × ((k : ℕ) → end ≤ k → k < length bytes → slice_index bytes k ≢ 0)

-- the class of files with 64-bit offsets
abbrev pub ELFCLASS64 : ℕ
ELFCLASS64 = 2

-- the data encoding with the lowest byte first
abbrev pub ELFDATA2LSB : ℕ
ELFDATA2LSB = 1

-- the one version of the format
abbrev pub EV_CURRENT : ℕ
EV_CURRENT = 1

-- e_ident, the first bytes of the file, as they must be: 7f, the letters ELF, the class, the encoding, the version
abbrev pub identification : List ℕ
identification = 0x7f ∷ codes "ELF" ++ ELFCLASS64 ∷ ELFDATA2LSB ∷ EV_CURRENT ∷ []

-- the file header is the file's first 64 bytes
abbrev pub FILE_HEADER_SIZE : ℕ
FILE_HEADER_SIZE = 64

-- e_type, the type of the file: 2 bytes at 16
abbrev pub file_type : List ℕ → ℕ
file_type file = number_at 2 file 16

-- the type of an executable
abbrev pub ET_EXEC : ℕ
ET_EXEC = 2

-- the type of a shared object or of an executable that may be placed anywhere
abbrev pub ET_DYN : ℕ
ET_DYN = 3

-- e_shoff, where the section headers start: 8 bytes at 40
abbrev pub table_offset : List ℕ → ℕ
table_offset file = number_at 8 file 40

-- e_shentsize, the size of a section header: 2 bytes at 58
abbrev pub header_size : List ℕ → ℕ
header_size file = number_at 2 file 58

-- e_shnum, the count of section headers: 2 bytes at 60
abbrev pub section_count : List ℕ → ℕ
section_count file = number_at 2 file 60

-- e_shstrndx, the number of the header whose section is the name table: 2 bytes at 62
abbrev pub names_index : List ℕ → ℕ
names_index file = number_at 2 file 62

-- a section header has 64 bytes
abbrev pub SECTION_HEADER_SIZE : ℕ
SECTION_HEADER_SIZE = 64

-- where section header k starts: the headers follow one another, counted from 0
abbrev pub header_offset : List ℕ → ℕ → ℕ
header_offset file k = table_offset file + SECTION_HEADER_SIZE * k

-- the section headers that name a section: all but number 0
abbrev pub IsHeader : List ℕ → ℕ → Type 0
IsHeader file k = (0 < k) × (k < section_count file)

-- sh_name of section k, where its name starts in the name table: 4 bytes at 0 of the header
abbrev pub name_offset : List ℕ → ℕ → ℕ
name_offset file k = number_at 4 file (header_offset file k)

-- sh_type of section k: 4 bytes at 4 of the header
abbrev pub section_type : List ℕ → ℕ → ℕ
section_type file k = number_at 4 file (header_offset file k + 4)

-- the type of a section that takes no bytes in the file
abbrev pub SHT_NOBITS : ℕ
SHT_NOBITS = 8

-- sh_flags of section k: 8 bytes at 8 of the header
abbrev pub section_flags : List ℕ → ℕ → ℕ
section_flags file k = number_at 8 file (header_offset file k + 8)

-- the flag of a section whose bytes are compressed
abbrev pub SHF_COMPRESSED : ℕ
SHF_COMPRESSED = 0x800

-- the flag of a section that has memory in the running program
abbrev pub SHF_ALLOC : ℕ
SHF_ALLOC = 2

-- the flag of a section whose bytes are instructions
abbrev pub SHF_EXECINSTR : ℕ
SHF_EXECINSTR = 4

-- section k is code that is loaded
abbrev pub IsCode : List ℕ → ℕ → Type 0
IsCode file k =
    IsHeader file k × (bit_and (section_flags file k) SHF_ALLOC ≢ 0)
    × (bit_and (section_flags file k) SHF_EXECINSTR ≢ 0)

-- sh_addr of section k, where it is in memory: 8 bytes at 16 of the header
abbrev pub section_address : List ℕ → ℕ → ℕ
section_address file k = number_at 8 file (header_offset file k + 16)

-- sh_offset of section k, where its bytes start: 8 bytes at 24 of the header
abbrev pub section_offset : List ℕ → ℕ → ℕ
section_offset file k = number_at 8 file (header_offset file k + 24)

-- sh_size of section k, how many bytes it has: 8 bytes at 32 of the header
abbrev pub section_size : List ℕ → ℕ → ℕ
section_size file k = number_at 8 file (header_offset file k + 32)

-- the bytes of section k: those of the file from its offset on, as many as its size
unfoldable pub section_bytes : List ℕ → ℕ → List ℕ
section_bytes file k = take (section_size file k) (drop (section_offset file k) file)

-- the bytes of the section that has the names of all sections
abbrev pub name_table : List ℕ → List ℕ
name_table file = section_bytes file (names_index file)

-- the name of section k
abbrev pub section_name : List ℕ → ℕ → List ℕ
section_name file k = string_at (name_table file) (name_offset file k)
