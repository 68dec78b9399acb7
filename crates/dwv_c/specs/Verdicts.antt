-- Chapter: what a call returns, and the verdict on a file or on six sections, as the caller's struct has it.
use Rattle.std.specs.Prelude.{◌≡◌, ℕ, ◌-◌, ◌<◌, ◌≤◌, ◌⊎◌, List, ◌++◌, length, replicate, codes}
use Rattle.dw_elf.specs.declared.fault.ElfFault.{ElfFault}
use Rattle.dw_elf.specs.declared.sections.Sections.{Sections}
use Rattle.dw_elf.specs.Limits.{section_limit}
use Rattle.dw_elf.specs.Checks.{ChecksPass}
use Rattle.dw_elf.specs.Rules.{IsFault}
use Rattle.dw_elf.specs.Sections.{AreSections}
use Rattle.dw_elf.specs.RuleTexts as elf
use Rattle.dw_entries.specs.declared.fault.Fault.{Fault as FirstFault}
use Rattle.dw_forms.specs.Rules.{code_text, name_text}
use Rattle.dw_entries.specs.SectionTexts.{section_text}
use Rattle.dw_image.specs.declared.image.Image.{Image}
use Rattle.dw_image.specs.Headline.{IsImageOf, IsFaultOf}
use Rattle.dw_units.specs.declared.counts.Counts.{Counts}
use Rattle.dw_units.specs.Counts.{AreCounts, counts_in}
use Rattle.dw_report.specs.Reports.{file_limit, too_large}
use Rattle.dwv_c.specs.declared.verdict.Verdict.{Verdict}

-- the file is sound
abbrev pub SOUND : ℕ
SOUND = 0

-- it violates a rule
abbrev pub FAULT : ℕ
FAULT = 1

-- an allocation failed
abbrev pub NO_MEMORY : ℕ
NO_MEMORY = 4

-- the caller's buffer or array is too short
abbrev pub TOO_SHORT : ℕ
TOO_SHORT = 5

-- no request has the number
abbrev pub NO_REQUEST : ℕ
NO_REQUEST = 6

-- a text, and zero bytes after it up to n bytes in all
abbrev pub field_text : ℕ → List ℕ → List ℕ
field_text n text = text ++ replicate (n - length text) 0

-- a fault: its place, its attribute and its three texts
abbrev pub fault_verdict : (at attribute : ℕ) → (rule section name : List ℕ) → Verdict
fault_verdict at attribute rule section name = record {
  units = 0;
  entries = 0;
  types = 0;
  at = at;
  attribute = attribute;
  rule = field_text 8 rule;
  section = field_text 16 section;
  name = field_text 24 name;
}

-- a fault of the file: its place is the number of a section header
abbrev pub of_file_fault : ElfFault → Verdict
of_file_fault f = fault_verdict f.section 0 (elf.code_text f.rule) (codes "file") (elf.name_text f.rule)

-- a fault of the sections
abbrev pub of_fault : FirstFault → Verdict
of_fault f = fault_verdict f.at f.attribute (code_text f.rule) (section_text f.section) (name_text f.rule)

-- sound sections: their counts
abbrev pub of_counts : Counts → Verdict
of_counts c = record {
  units = c.units;
  entries = c.entries;
  types = c.types;
  at = 0;
  attribute = 0;
  rule = replicate 8 0;
  section = replicate 16 0;
  name = replicate 24 0;
}

-- an image: the counts of its sections
abbrev pub of_image : Image → Verdict
of_image i = of_counts (counts_in i)

-- what a call is given: the bytes of a file, or those of six sections
pub data Given : Type 0 where
  of_file : (bytes : List ℕ) → Given
  of_six : (info abbrevs strs line_strs offsets addrs : List ℕ) → Given

-- the file is within the limit, all checks of it pass, and these are its sections
pub record AreOfFile (bytes : List ℕ) (s : Sections) : Type 0 where
  pub within : length bytes ≤ file_limit
  pub passes : ChecksPass bytes
  pub are : AreSections bytes s

-- the sections have these bytes, .debug_info from its start
pub record HaveBytes (s : Sections) (info abbrevs strs line_strs offsets addrs : List ℕ) : Type 0 where
  pub info_is : s.info.now ≡ info
  pub abbrev_is : s.«abbrev».now ≡ abbrevs
  pub str_is : s.str.now ≡ strs
  pub line_str_is : s.line_str.now ≡ line_strs
  pub str_offsets_is : s.str_offsets.now ≡ offsets
  pub addr_is : s.addr.now ≡ addrs
  pub base_is : s.base ≡ 0

-- these are the sections that are given
abbrev pub AreGiven : Given → Sections → Type 0
AreGiven (of_file bytes) s = AreOfFile bytes s
AreGiven (of_six info abbrevs strs line_strs offsets addrs) s =
    HaveBytes s info abbrevs strs line_strs offsets addrs

-- the fault if no sections are given: of a file that is too long, or of which a check fails, or of six sections of
-- which one is longer than a section may be
pub data IsRefusal : Given → Verdict → Type 0 where
  large_file : (bytes : List ℕ) → file_limit < length bytes → IsRefusal (of_file bytes) (of_file_fault too_large)
  fails : (bytes : List ℕ) (f : ElfFault) → length bytes ≤ file_limit → IsFault bytes f
      → IsRefusal (of_file bytes) (of_file_fault f)
  large_section : (info abbrevs strs line_strs offsets addrs : List ℕ)
      → (section_limit < length abbrevs) ⊎ (section_limit < length info) ⊎ (section_limit < length strs)
      ⊎ (section_limit < length line_strs) ⊎ (section_limit < length offsets) ⊎ (section_limit < length addrs)
      → IsRefusal (of_six info abbrevs strs line_strs offsets addrs) (of_file_fault too_large)

-- what is given is sound, and the image is of its sections
pub record IsSound (g : Given) (i : Image) : Type 0 where
  pub sections : Sections
  pub given : AreGiven g sections
  pub image : IsImageOf sections i

-- it is sound, and these are the counts of its sections
pub record AreCountsOf (g : Given) (c : Counts) : Type 0 where
  pub sections : Sections
  pub given : AreGiven g sections
  pub counts : AreCounts sections c

-- the fault of what is given: no sections are given, or it is the first fault of its sections
pub data IsFaultOfGiven (g : Given) : Verdict → Type 0 where
  refused : (v : Verdict) → IsRefusal g v → IsFaultOfGiven g v
  violates : (s : Sections) (f : FirstFault) → AreGiven g s → IsFaultOf s f → IsFaultOfGiven g (of_fault f)

-- what a check returns, and the caller's struct then: the counts, the fault, or the struct as it was if an allocation
-- failed
pub data Checks (g : Given) (old : Verdict) : ℕ → Verdict → Type 0 where
  sound : (c : Counts) → AreCountsOf g c → Checks g old SOUND (of_counts c)
  fault : (v : Verdict) → IsFaultOfGiven g v → Checks g old FAULT v
  memory : Checks g old NO_MEMORY old
