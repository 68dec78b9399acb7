-- State: what a value means before its row is written.
use Rattle.std.specs.Prelude.{◌≡◌, ℕ, ◌+◌, ◌<◌, ◌≤◌, ◌==◌, List, length, Option, None, Some, if◌then◌else◌}
use Rattle.dw_elf.specs.Sections.{IsAt}
use Rattle.dw_forms.specs.Codes.{DW_AT_name}
use Rattle.dw_forms.specs.Value.{Datum}
use Rattle.dw_entries.specs.ByNumber.{entry_of}
use Rattle.dw_entries.specs.EntryRules.{HasAttribute}
use Rattle.dw_entries.specs.Entries.{Entry}
use Rattle.dw_image.specs.declared.image.Image.{Image}
use Rattle.dw_image.specs.Images.{entries_in, sections_in}
use Rattle.dwv_c.specs.declared.meaning.Meaning.{Meaning}
use Rattle.dwv_c.specs.declared.meaning.Meaning.TheVariants.{Text}
use Rattle.dwv_c.specs.declared.places.Holders.{Holders}
use Rattle.dwv_c.specs.declared.places.Span.{Span}
use Rattle.dwv_c.specs.ValueRows.{IsMeaning}

-- ---- places

-- these bytes are in a section at an offset
pub record IsPartOfSection (section : List ℕ) (offset : ℕ) (bytes : List ℕ) : Type 0 where
  pub place : IsAt section offset bytes
  pub within : offset + length bytes ≤ length section

-- the three sections of an image are in what their places are counted from, .debug_info as a whole
pub record AreThere (i : Image) (h : Holders) : Type 0 where
  pub info : IsAt h.info.bytes.now h.info.start (sections_in i).info.now
  pub info_within : h.info.start + length (sections_in i).info.now ≤ length h.info.bytes.now
  pub str : IsAt h.str.bytes.now h.str.start (sections_in i).str.now
  pub line_str : IsAt h.line_str.bytes.now h.line_str.start (sections_in i).line_str.now

-- ---- meanings

-- an entry of the unit with this number has this value
pub record HasValue (i : Image) (unit : ℕ) (v : Datum) : Type 0 where
  pub id : ℕ
  pub within : id < length (entries_in i)
  pub in_unit : (entry_of (entries_in i) id).unit ≡ unit
  pub position : ℕ
  pub attribute : ℕ
  pub has : HasAttribute (entry_of (entries_in i) id) position attribute v

-- this is what a value means at each entry of the unit that has it
abbrev pub MeansIn : (h : Holders) → Image → (unit end : ℕ) → Datum → Meaning → Type 0
MeansIn h i unit end v m = (e : Entry) → e.unit ≡ unit → IsMeaning h i e end v m

-- the bytes of a meaning that is a text
abbrev pub text_span : Meaning → Option Span
text_span (Text s) = Some s
text_span _ = None

-- what is known of an entry's name after one more of its attributes, with what it means: where the name is, or that it
-- is no text
abbrev pub named_after : Option (Option Span) → (attribute : ℕ) → Meaning → Option (Option Span)
named_after (Some name) attribute m = Some name
named_after None attribute m = if attribute == DW_AT_name then Some (text_span m) else None
