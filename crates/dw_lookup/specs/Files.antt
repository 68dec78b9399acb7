-- Chapter: what is found of a file: the first rule that it violates, or what is known of it for look-ups by address.
use Rattle.std.specs.Prelude.{◌≡◌, ℕ, List}
use Rattle.dw_elf.specs.Checks.{ChecksPass}
use Rattle.dw_elf.specs.Rules.{IsFault}
use Rattle.dw_elf.specs.Sections.{AreSections}
use Rattle.dw_elf.specs.declared.fault.ElfFault.{ElfFault}
use Rattle.dw_elf.specs.declared.sections.Sections.{Sections}
use Rattle.dw_entries.specs.declared.fault.Fault.{Fault as EntryFault}
use Rattle.dw_ranges.specs.Files.{FileViolates, HasFile}
use Rattle.dw_ranges.specs.declared.fault.RangeFault.{RangeFault}
use Rattle.dw_ranges.specs.declared.file.FileFunctions.{FileFunctions}
use Rattle.dw_addresses.specs.Lines.{HasLines, LinesFail}
use Rattle.dw_addresses.specs.declared.fault.LinesFault.{LinesFault}
use Rattle.dw_addresses.specs.declared.lines.FileLines.{FileLines}
use Rattle.dw_image.specs.Headline.{IsFaultOf, IsImageOf}
use Rattle.dw_image.specs.Images.{sections_in}
use Rattle.dw_image.specs.declared.image.Image.{Image}
use Rattle.dw_lookup.specs.Parts.{AreCodeAreas, HasParts, PartsFail, budget_of}
use Rattle.dw_lookup.specs.declared.first_fault.FirstFault.{FirstFault}
use Rattle.dw_lookup.specs.declared.first_fault.FirstFault.TheVariants.{File, Entries, Lines, Ranges}
use Rattle.dw_lookup.specs.declared.known.Known.{Known}
use Rattle.dw_lookup.specs.declared.sources.Sources.{Sources as FileSources}

-- the image is of the six sections of a file
pub record HasImage (bytes : List ℕ) (image : Image) : Type 0 where
  pub passes : ChecksPass bytes
  pub sections : AreSections bytes (sections_in image)
  pub is : IsImageOf (sections_in image) image

-- what look-ups by address are made from: the image of a file, its other sections, and the areas of its code
pub record HasSources (bytes : List ℕ) (s : FileSources) : Type 0 where
  pub image_is : HasImage bytes s.image
  pub parts_are : HasParts bytes (sections_in s.image) s.parts
  pub areas_are : AreCodeAreas bytes s.areas.items

module _ (s : FileSources) where
  -- the lines of the file, which violate no rule
  abbrev pub LinesAre : FileLines → Type 0
  LinesAre = HasLines s.parts.lines s.code.items s.image.entries

  -- the first rule that they violate
  abbrev pub LinesViolate : LinesFault → Type 0
  LinesViolate = LinesFail s.parts.lines s.code.items s.image.entries

  -- the functions of the file, which violate no rule
  abbrev pub FunctionsAre : FileFunctions → Type 0
  FunctionsAre =
      HasFile s.parts.lists s.areas.items s.image.entries (budget_of (sections_in s.image) s.parts.lists)

  -- the first rule that they violate
  abbrev pub FunctionsViolate : RangeFault → Type 0
  FunctionsViolate =
      FileViolates s.parts.lists s.areas.items s.image.entries (budget_of (sections_in s.image) s.parts.lists)

-- the first rule that a file violates: of the file, of its entries, of the file where its other sections are looked
-- for, of its lines, or of its ranges
pub data FileFails (bytes : List ℕ) : FirstFault → Type 0 where
  of_file : (f : ElfFault) → IsFault bytes f → FileFails bytes (File f)
  of_entries : (s : Sections) (f : EntryFault) → ChecksPass bytes → AreSections bytes s → IsFaultOf s f
      → FileFails bytes (Entries f)
  of_parts : (image : Image) (f : ElfFault) → HasImage bytes image → PartsFail bytes f → FileFails bytes (File f)
  of_lines : (s : FileSources) (f : LinesFault) → HasSources bytes s → LinesViolate s f → FileFails bytes (Lines f)
  of_ranges : (s : FileSources) (lines : FileLines) (f : RangeFault) → HasSources bytes s → LinesAre s lines
      → FunctionsViolate s f → FileFails bytes (Ranges f)

-- a file violates no rule, and this is known of it: its image, its lines and its functions
pub record IsSound (bytes : List ℕ) (known : Known) : Type 0 where
  pub sources : FileSources
  pub has : HasSources bytes sources
  pub image_is : known.image.now ≡ sources.image
  pub lines_are : LinesAre sources known.lines
  pub functions_are : FunctionsAre sources known.functions
