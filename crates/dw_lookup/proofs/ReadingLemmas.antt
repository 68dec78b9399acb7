-- What is found of a file, by what the calls that read it were given.
use Rattle.std.proofs.Common.{◌≡◌, ℕ, List, subst, sym}
use Rattle.dw_elf.specs.declared.sections.Sections.{Sections}
use Rattle.dw_entries.specs.declared.entries.Entries.{Entries}
use Rattle.dw_forms.specs.Stops.{IfFault}
use Rattle.dw_forms.specs.declared.fault.Stop.{Stop}
use Rattle.dw_forms.specs.declared.fault.Stop.TheVariants as stops
use Rattle.dw_ranges.specs.Files.{FileViolates, HasFile}
use Rattle.dw_ranges.specs.declared.fault.RangeFault.{RangeFault}
use Rattle.dw_ranges.specs.declared.file.FileFunctions.{FileFunctions}
use Rattle.dw_ranges.specs.declared.range.Range.{Range}
use Rattle.dw_addresses.specs.Lines.{HasLines, LinesFail}
use Rattle.dw_addresses.specs.declared.fault.LinesFault.{LinesFault}
use Rattle.dw_addresses.specs.declared.lines.FileLines.{FileLines}
use Rattle.dw_image.specs.Images.{sections_in}
use Rattle.dw_lookup.specs.Files.{FileFails, FunctionsAre, HasSources, LinesAre, of_lines, of_ranges}
use Rattle.dw_lookup.specs.Parts.{budget_of}
use Rattle.dw_lookup.specs.Reading.{first_of_lines, first_of_ranges}
use Rattle.dw_lookup.specs.declared.first_fault.FirstFault.{FirstFault}
use Rattle.dw_lookup.specs.declared.sources.Sources.{Sources as FileSources}

module _ (s : FileSources) (code : List (ℕ × ℕ)) (entries : Entries) (code_is : code ≡ s.code.items)
    (entries_are : entries ≡ s.image.entries) where
  of_sources : (P : List (ℕ × ℕ) → Entries → Type 0) → P code entries → P s.code.items s.image.entries
  of_sources P p = subst (P s.code.items) entries_are (subst (λ (xs : List (ℕ × ℕ)). P xs entries) code_is p)

  pub lines_are : (lines : FileLines) → HasLines s.parts.lines code entries lines → LinesAre s lines
  lines_are lines = of_sources (λ xs es. HasLines s.parts.lines xs es lines)

  lines_stopped : (bytes : List ℕ) (stop : Stop LinesFault) → HasSources bytes s
      → IfFault (LinesFail s.parts.lines code entries) stop → IfFault (FileFails bytes) (first_of_lines stop)
  lines_stopped bytes stops.Memory has fails = tt
  lines_stopped bytes (stops.Fault f) has fails =
      of_lines s f has (of_sources (λ xs es. LinesFail s.parts.lines xs es f) fails)

  -- the first rule that the lines violate, unless memory ran out
  pub lines_stop : (bytes : List ℕ) (stop : Stop LinesFault) (result : Stop FirstFault) → result ≡ first_of_lines stop
      → HasSources bytes s → IfFault (LinesFail s.parts.lines code entries) stop → IfFault (FileFails bytes) result
  lines_stop bytes stop result is has fails =
      subst (IfFault (FileFails bytes)) (sym is) (lines_stopped bytes stop has fails)

module _ (s : FileSources) (areas : List Range) (entries : Entries) (sections : Sections) (budget : ℕ)
    (areas_are : areas ≡ s.areas.items) (entries_are : entries ≡ s.image.entries)
    (sections_are : sections ≡ sections_in s.image) (budget_is : budget ≡ budget_of sections s.parts.lists) where
  by_sources : (P : List Range → Entries → ℕ → Type 0) → P areas entries budget
      → P s.areas.items s.image.entries (budget_of (sections_in s.image) s.parts.lists)
  by_sources P p =
      subst (λ (x : Sections). P s.areas.items s.image.entries (budget_of x s.parts.lists)) sections_are
      (subst (P s.areas.items s.image.entries) budget_is
      (subst (λ (es : Entries). P s.areas.items es budget) entries_are
      (subst (λ (xs : List Range). P xs entries budget) areas_are p)))

  pub functions_are : (functions : FileFunctions) → HasFile s.parts.lists areas entries budget functions
      → FunctionsAre s functions
  functions_are functions = by_sources (λ xs es n. HasFile s.parts.lists xs es n functions)

  ranges_stopped : (bytes : List ℕ) (lines : FileLines) (stop : Stop RangeFault) → HasSources bytes s
      → LinesAre s lines → IfFault (FileViolates s.parts.lists areas entries budget) stop
      → IfFault (FileFails bytes) (first_of_ranges stop)
  ranges_stopped bytes lines stops.Memory has are fails = tt
  ranges_stopped bytes lines (stops.Fault f) has are fails =
      of_ranges s lines f has are (by_sources (λ xs es n. FileViolates s.parts.lists xs es n f) fails)

  -- the first rule that the ranges violate, unless memory ran out
  pub ranges_stop : (bytes : List ℕ) (lines : FileLines) (stop : Stop RangeFault) (result : Stop FirstFault)
      → result ≡ first_of_ranges stop → HasSources bytes s → LinesAre s lines
      → IfFault (FileViolates s.parts.lists areas entries budget) stop → IfFault (FileFails bytes) result
  ranges_stop bytes lines stop result is has are fails =
      subst (IfFault (FileFails bytes)) (sym is) (ranges_stopped bytes lines stop has are fails)
