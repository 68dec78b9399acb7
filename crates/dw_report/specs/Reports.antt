-- Chapter: the report of a request over the bytes of a file.
use Rattle.std.specs.Prelude.{◌≡◌, ℕ, ◌<◌, ◌≤◌, Bool, true, false, List, length}
use Rattle.dw_elf.specs.declared.rule.ElfRule.TheVariants as elf_rules
use Rattle.dw_elf.specs.declared.fault.ElfFault.{ElfFault}
use Rattle.dw_elf.specs.declared.sections.Sections.{Sections}
use Rattle.dw_elf.specs.Checks.{ChecksPass}
use Rattle.dw_elf.specs.Rules.{IsFault}
use Rattle.dw_elf.specs.Sections.{AreSections}
use Rattle.dw_entries.specs.declared.fault.Fault.{Fault as FirstFault}
use Rattle.dw_cprint.specs.Listings.{IsListing, listing_text}
use Rattle.dw_cprint.specs.declared.fault.PrintFault.{PrintFault}
use Rattle.dw_image.specs.declared.image.Image.{Image}
use Rattle.dw_image.specs.Headline.{IsImageOf, IsFaultOf}
use Rattle.dw_units.specs.declared.counts.Counts.{Counts}
use Rattle.dw_units.specs.Counts.{AreCounts}
use Rattle.dw_report.specs.Lines.{sound_line, elf_fault_line, fault_lines}
use Rattle.dw_report.specs.Shown.{show_lines, size_text, size_status, type_at_offset}
use Rattle.dw_report.specs.JsonObjects.{sound_object, fault_object, elf_fault_object, object_line}
use Rattle.dw_report.specs.declared.request.Request.{Request}
use Rattle.dw_report.specs.declared.request.Request.TheVariants.{Check, Show, Types, Size}
use Rattle.dw_report.specs.declared.request.Status.{Status}
use Rattle.dw_report.specs.declared.request.Status.TheVariants.{Sound, Fault, NotAType}

-- the most bytes that a file may have: 4 GiB
abbrev pub file_limit : ℕ
file_limit = 4_294_967_296

-- a fault of the file: an object in JSON if `--json` was given, else a line
abbrev pub elf_fault_text : Request → ElfFault → List ℕ
elf_fault_text (Check true) f = object_line (elf_fault_object f)
elf_fault_text _ f = elf_fault_line f

-- a fault of the sections
abbrev pub fault_text : Request → FirstFault → List ℕ
fault_text (Check true) f = object_line (fault_object f)
fault_text _ f = fault_lines f

-- the lines of the listing of all named types
pub record AreTypeLines (i : Image) (text : List ℕ) : Type 0 where
  pub order : List ℕ
  pub refused : List (ℕ × PrintFault)
  pub listing : IsListing i order refused
  pub lines : text ≡ listing_text i order refused

-- the counts of sound sections: an object in JSON if `--json` was given, else a line
abbrev pub counts_text : (json : Bool) → Counts → List ℕ
counts_text true c = object_line (sound_object c.units c.entries c.types)
counts_text false c = sound_line c.units c.entries c.types

-- what is returned and written of sound sections: their counts, or what is requested of an image of them
pub data SoundReport (s : Sections) : Request → Status → List ℕ → Type 0 where
  counted : (json : Bool) (c : Counts) → AreCounts s c → SoundReport s (Check json) Sound (counts_text json c)
  shown : (i : Image) → IsImageOf s i → SoundReport s Show Sound (show_lines i)
  listed : (i : Image) (text : List ℕ) → IsImageOf s i → AreTypeLines i text → SoundReport s Types Sound text
  sized : (i : Image) (offset : ℕ) → IsImageOf s i
      → SoundReport s (Size offset) (size_status (type_at_offset i offset)) (size_text i (type_at_offset i offset))

-- what is returned and written of sections: their first fault, or what is requested of sound ones
pub data SectionsReport (s : Sections) (request : Request) : Status → List ℕ → Type 0 where
  fault : (f : FirstFault) → IsFaultOf s f → SectionsReport s request Fault (fault_text request f)
  sound : (status : Status) (text : List ℕ) → SoundReport s request status text
      → SectionsReport s request status text

-- the exit status of the program
abbrev pub status_code : Status → ℕ
status_code Sound = 0
status_code Fault = 1
status_code NotAType = 2

-- a file that is not within the limit
abbrev pub too_large : ElfFault
too_large = record { rule = elf_rules.TooLarge; section = 0 }

-- what is returned and written for these bytes of a file, if a file has at most `limit` of them: the fault of a longer
-- file, the first check of the file that fails, or what is returned and written of its sections
pub data Report (limit : ℕ) (request : Request) (bytes : List ℕ) : Status → List ℕ → Type 0 where
  large : limit < length bytes → Report limit request bytes Fault (elf_fault_text request too_large)
  fails : (f : ElfFault) → length bytes ≤ limit → IsFault bytes f
      → Report limit request bytes Fault (elf_fault_text request f)
  of_sections : (s : Sections) (status : Status) (text : List ℕ) → length bytes ≤ limit → ChecksPass bytes
      → AreSections bytes s → SectionsReport s request status text → Report limit request bytes status text
