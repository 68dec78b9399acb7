-- Chapter: where bytes of .debug_info, .debug_str and .debug_line_str are: counted from the start of a file, or from
-- the start of each section.
use Rattle.std.specs.Prelude.{◌≡◌, ℕ, ◌+◌, ◌≤◌, List, [], ◌∷◌, ◌++◌, length, Option, None, Some}
use Rattle.dw_elf.specs.Names.{name_of}
use Rattle.dw_elf.specs.Sections.{IsAt, StartsAt}
use Rattle.dw_elf.specs.declared.sections.DebugSection.{DebugSection}
use Rattle.dw_elf.specs.declared.sections.DebugSection.TheVariants as debug
use Rattle.dw_image.specs.declared.image.Image.{Image}
use Rattle.dw_image.specs.Images.{sections_in}
use Rattle.dw_links.specs.declared.texts.TextPlace.{TextPlace}
use Rattle.dw_links.specs.declared.texts.TextPlace.TheVariants.{Info, Str, LineStr}
use Rattle.dwv_c.specs.declared.places.Holder.{Holder}
use Rattle.dwv_c.specs.declared.places.Holders.{Holders}
use Rattle.dwv_c.specs.declared.places.Span.{Span}

-- the section that a place is in: 1 for .debug_info, 2 for .debug_str, 3 for .debug_line_str
abbrev pub section_of : TextPlace → ℕ
section_of (Info offset) = 1
section_of (Str offset) = 2
section_of (LineStr offset) = 3

-- the offset of the place in that section
abbrev pub offset_of : TextPlace → ℕ
offset_of (Info offset) = offset
offset_of (Str offset) = offset
offset_of (LineStr offset) = offset

-- what places in that section are counted from
abbrev pub holder_of : Holders → TextPlace → Holder
holder_of h (Info offset) = h.info
holder_of h (Str offset) = h.str
holder_of h (LineStr offset) = h.line_str

-- places in a section are counted from the start of a file
pub record IsInFile (file : List ℕ) (section : DebugSection) (o : Holder) : Type 0 where
  pub bytes : o.bytes.now ≡ file
  pub start : StartsAt file (name_of section) o.start

-- so in each of the three sections
pub record AreInFile (file : List ℕ) (h : Holders) : Type 0 where
  pub info : IsInFile file debug.Info h.info
  pub str : IsInFile file debug.Str h.str
  pub line_str : IsInFile file debug.LineStr h.line_str

-- places in a section are counted from its start
pub record IsAlone (section : List ℕ) (o : Holder) : Type 0 where
  pub bytes : o.bytes.now ≡ section
  pub start : o.start ≡ 0

-- so in each of the three sections of an image
pub record AreInImage (i : Image) (h : Holders) : Type 0 where
  pub info : IsAlone (sections_in i).info.now h.info
  pub str : IsAlone (sections_in i).str.now h.str
  pub line_str : IsAlone (sections_in i).line_str.now h.line_str

-- ---- bytes in the sections

-- these bytes are there, at a place
pub record IsSpan (h : Holders) (p : TextPlace) (bytes : List ℕ) (s : Span) : Type 0 where
  pub section_is : s.section ≡ section_of p
  pub start_is : s.start ≡ (holder_of h p).start + offset_of p
  pub length_is : s.length ≡ length bytes
  pub place : IsAt (holder_of h p).bytes.now s.start bytes
  pub within : s.start + s.length ≤ length (holder_of h p).bytes.now

-- this text is there, at a place, and a zero byte follows it
pub record IsTextSpan (h : Holders) (text : List ℕ) (p : TextPlace) (s : Span) : Type 0 where
  pub section_is : s.section ≡ section_of p
  pub start_is : s.start ≡ (holder_of h p).start + offset_of p
  pub length_is : s.length ≡ length text
  pub place : IsAt (holder_of h p).bytes.now s.start (text ++ 0 ∷ [])

-- no bytes
abbrev pub nowhere : Span
nowhere = record { section = 0; start = 0; length = 0 }

-- a name is there, at this place, or there is none
abbrev pub IsNameSpan : (h : Holders) → Option (List ℕ) → Option TextPlace → Span → Type 0
IsNameSpan h None place s = s ≡ nowhere
IsNameSpan h (Some name) None s = ⊥
IsNameSpan h (Some name) (Some place) s = IsTextSpan h name place s
