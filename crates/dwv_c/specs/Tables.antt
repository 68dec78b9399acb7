-- Chapter: the units, the entries and the values of a sound file as rows in three arrays of the caller.
use Rattle.std.specs.Prelude.{◌≡◌, ℕ, ◌<◌, ◌≤◌, List, length, take, drop, min, slice_get}
use Rattle.std.specs.Prelude.{Option, Some, None, unwrap_or}
use Rattle.std.specs.Option.{IsSomeAnd}
use Rattle.dw_forms.specs.Codes.{DW_AT_language}
use Rattle.dw_entries.specs.EntryRules.{values_of}
use Rattle.dw_entries.specs.Entries.{Entry, PlacedUnit, node_count, placed}
use Rattle.dw_entries.specs.ByNumber.{entry_of}
use Rattle.dw_entries.specs.Header.{code_of_type, version_of}
use Rattle.dw_entries.specs.Lookups.{unit_head}
use Rattle.dw_links.specs.Bases.{section_offset_of}
use Rattle.dw_links.specs.Constants.{constant_at, natural_of}
use Rattle.dw_ranges.specs.EntryRanges.{DW_AT_rnglists_base}
use Rattle.dw_image.specs.declared.image.Image.{Image}
use Rattle.dw_image.specs.Images.{entries_in, entry_count, name_in, name_place_in, unit_count, units_in}
use Rattle.dw_report.specs.Shown.{entry_size}
use Rattle.dwv_c.specs.declared.meaning.ValueRow.{ValueRow}
use Rattle.dwv_c.specs.declared.places.Span.{Span}
use Rattle.dwv_c.specs.declared.table_rows.TableCounts.{TableCounts}
use Rattle.dwv_c.specs.declared.table_rows.EntryRow.{EntryRow}
use Rattle.dwv_c.specs.declared.table_rows.UnitRow.{UnitRow}
use Rattle.dwv_c.specs.declared.verdict.Verdict.{Verdict}
use Rattle.dwv_c.specs.declared.places.Holders.{Holders}
use Rattle.dwv_c.specs.SectionPlaces.{AreInFile, AreInImage, IsNameSpan}
use Rattle.dwv_c.specs.ValueRows.{IsValueRow, Told, values_from, values_in}
use Rattle.dwv_c.specs.Verdicts.{Given, of_file, of_six, SOUND, FAULT, NO_MEMORY, TOO_SHORT, IsFaultOfGiven}
use Rattle.dwv_c.specs.Verdicts.{IsSound, of_image}

-- where a unit's location lists are counted from in .debug_loclists (DWARF 5, table 7.5)
abbrev pub DW_AT_loclists_base : ℕ
DW_AT_loclists_base = 0x8c

-- the greatest number that a field of 32 bits has
abbrev pub greatest : ℕ
greatest = 4_294_967_295

-- the row of an entry, or the greatest number of 32 bits for none
abbrev pub row_of : Option ℕ → ℕ
row_of None = greatest
row_of (Some number) = number

-- how many values an image has
abbrev pub value_count : Image → ℕ
value_count i = length (values_in i)

-- how many values the entries before a number have
abbrev pub values_before : Image → ℕ → ℕ
values_before i number = length (values_from 0 (take number (entries_in i)))

-- the number under an attribute of an entry, or 0 if there is none that is 0 or more
abbrev pub number_under : Entry → ℕ → ℕ
number_under e attribute = unwrap_or (natural_of (constant_at e attribute)) 0

-- the offset into a section under an attribute of an entry, or 0 if there is none
abbrev pub offset_under : Entry → ℕ → ℕ
offset_under e attribute = unwrap_or (section_offset_of e attribute) 0

-- the row of a unit; the last three are of its first entry
pub record IsUnitRow (i : Image) (p : PlacedUnit) (r : UnitRow) : Type 0 where
  pub offset : r.offset ≡ p.at
  pub version : r.version ≡ version_of p.unit.header.kind
  pub type : r.unit_type ≡ code_of_type (unit_head p).unit_type
  pub address_size : r.address_size ≡ p.unit.header.address_size
  pub first : r.first ≡ p.first
  pub entries : r.entries ≡ min (node_count p.unit.root) greatest
  pub language : r.language ≡ number_under (entry_of (entries_in i) p.first) DW_AT_language
  pub rnglists_base : r.rnglists_base ≡ offset_under (entry_of (entries_in i) p.first) DW_AT_rnglists_base
  pub loclists_base : r.loclists_base ≡ offset_under (entry_of (entries_in i) p.first) DW_AT_loclists_base

-- a row has this size, or none
abbrev pub HasSize : Option ℕ → EntryRow → Type 0
HasSize None r = (r.size ≡ 0) × (r.has_size ≡ 0)
HasSize (Some n) r = (r.size ≡ n) × (r.has_size ≡ 1)

-- the bytes of a row's name
abbrev pub name_span : EntryRow → Span
name_span r = record { section = r.name_section; start = r.name; length = r.name_length }

-- the row of the entry with a number: its offset, its depth (or the greatest number, if it does not fit), its tag, its
-- size, where its name is, and its place among the others
pub record IsEntryRow (h : Holders) (i : Image) (number : ℕ) (e : Entry) (r : EntryRow) : Type 0 where
  pub offset : r.offset ≡ e.at
  pub depth : r.depth ≡ min e.depth greatest
  pub tag : r.tag ≡ e.head.decl.tag
  pub size : HasSize (entry_size i number e) r
  pub name : IsNameSpan h (name_in i e) (name_place_in i e) (name_span r)
  pub first_value : r.first_value ≡ values_before i number
  pub values : r.values ≡ min (length (values_of e.head)) greatest
  pub unit : r.unit ≡ e.unit
  pub parent : r.parent ≡ row_of e.parent
  pub next_sibling : r.next_sibling ≡ row_of e.next

-- the first n rows are those of the first n units
abbrev pub HaveUnits : Image → ℕ → List UnitRow → Type 0
HaveUnits i n rows = (k : ℕ) (p : PlacedUnit) → k < n → slice_get (placed (units_in i)) k ≡ Some p
    → IsSomeAnd (slice_get rows k) (IsUnitRow i p)

-- the first n rows are those of the first n entries
abbrev pub HaveEntries : (h : Holders) → Image → ℕ → List EntryRow → Type 0
HaveEntries h i n rows = (k : ℕ) (e : Entry) → k < n → slice_get (entries_in i) k ≡ Some e
    → IsSomeAnd (slice_get rows k) (IsEntryRow h i k e)

-- the first n rows are those of the first n values
abbrev pub HaveValues : (h : Holders) → Image → ℕ → List ValueRow → Type 0
HaveValues h i n rows = (k : ℕ) (t : Told) → k < n → slice_get (values_in i) k ≡ Some t
    → IsSomeAnd (slice_get rows k) (IsValueRow h i t)

-- the three arrays, as they are before or after a call
pub record Arrays : Type 0 where
  pub units : List UnitRow
  pub entries : List EntryRow
  pub values : List ValueRow

-- there is room for all rows
pub record HasRoom (i : Image) (a : Arrays) : Type 0 where
  pub units : unit_count i ≤ length a.units
  pub entries : entry_count i ≤ length a.entries
  pub values : value_count i ≤ length a.values

-- the arrays have a row for each unit, entry and value, and the rest is as it was
pub record AreTable (h : Holders) (i : Image) (old new : Arrays) : Type 0 where
  pub units : HaveUnits i (unit_count i) new.units
  pub entries : HaveEntries h i (entry_count i) new.entries
  pub values : HaveValues h i (value_count i) new.values
  pub other_units : drop (unit_count i) new.units ≡ drop (unit_count i) old.units
  pub other_entries : drop (entry_count i) new.entries ≡ drop (entry_count i) old.entries
  pub other_values : drop (value_count i) new.values ≡ drop (value_count i) old.values

-- what is returned for sound sections, and the arrays then; places are counted from such holders
pub data FillsTable (AreHeld : Holders → Type 0) (i : Image) (old : Arrays) : ℕ → Arrays → Type 0 where
  whole : (h : Holders) (new : Arrays) → AreHeld h → HasRoom i old → AreTable h i old new
      → FillsTable AreHeld i old SOUND new
  short : ¬ HasRoom i old → FillsTable AreHeld i old TOO_SHORT old

-- how many rows an image has
abbrev pub counts_of : Image → TableCounts
counts_of i = record { units = unit_count i; entries = entry_count i; values = value_count i }

-- what places in rows are counted from: the start of the file that is given, or of each of the sections
abbrev pub AreHolders : Given → Image → Holders → Type 0
AreHolders (of_file bytes) i h = AreInFile bytes h
AreHolders (of_six info abbrevs strs line_strs offsets addrs) i h = AreInImage i h

-- what is returned, and the arrays, the counts and the verdict then. If an allocation failed, the arrays are as they
-- were
pub data PutsTable (g : Given) (old : Arrays) (counts : TableCounts) (v : Verdict)
    : ℕ → Arrays → TableCounts → Verdict → Type 0 where
  sound : (i : Image) (status : ℕ) (new : Arrays) → IsSound g i → FillsTable (AreHolders g i) i old status new
      → PutsTable g old counts v status new (counts_of i) (of_image i)
  fault : (found : Verdict) → IsFaultOfGiven g found → PutsTable g old counts v FAULT old counts found
  memory : PutsTable g old counts v NO_MEMORY old counts v

-- the arrays of these rows
abbrev pub arrays : List UnitRow → List EntryRow → List ValueRow → Arrays
arrays units entries values = record { units = units; entries = entries; values = values }
