-- Chapter: the values of the entries of a sound file as rows in an array of the caller.
use Rattle.std.specs.Prelude.{◌≡◌, ℕ, suc, ◌-◌, List, [], ◌∷◌, ◌++◌, length, map, slice_get, Option, Some}
use Rattle.std.specs.Prelude.{if◌then◌else◌}
use Rattle.std.specs.Option.{option_and_then}
use Rattle.std.specs.Int.{cast_unsigned, w64}
use Rattle.dw_forms.specs.Codes.{DW_AT_str_offsets_base, DW_AT_addr_base}
use Rattle.dw_forms.specs.Value.{Datum, block, unsigned, signed, wide, flag, sec_offset, expr, loc_index, rng_index}
use Rattle.dw_entries.specs.OwnBytes.{bytes_of}
use Rattle.dw_entries.specs.ValuePlaces.{PlacedValue, placed_values}
use Rattle.dw_entries.specs.Entries.{Entry, PlacedUnit, placed}
use Rattle.dw_image.specs.declared.image.Image.{Image}
use Rattle.dw_image.specs.Images.{entries_in, sections_in, units_in}
use Rattle.dw_links.specs.Bases.{base_in}
use Rattle.dw_links.specs.Targets.{reach_of}
use Rattle.dw_links.specs.ValueTexts.{address_of, text_of_value, text_place_of}
use Rattle.dw_links.specs.declared.texts.TextPlace.{TextPlace}
use Rattle.dw_links.specs.declared.texts.TextPlace.TheVariants.{Info}
use Rattle.dwv_c.specs.declared.meaning.Meaning.{Meaning}
use Rattle.dwv_c.specs.declared.meaning.Meaning.TheVariants.{Unsigned, Signed, Flag, Address, Text, Block, Expression}
use Rattle.dwv_c.specs.declared.meaning.Meaning.TheVariants.{Wide, Reference, SectionOffset, LocationList, RangeList}
use Rattle.dwv_c.specs.declared.meaning.ValueRow.{ValueRow}
use Rattle.dwv_c.specs.declared.places.Holders.{Holders}
use Rattle.dwv_c.specs.declared.places.Span.{Span}
use Rattle.dwv_c.specs.SectionPlaces.{IsSpan, IsTextSpan}

-- ---- the fields of a row

-- the bytes of a row
abbrev pub row_span : ValueRow → Span
row_span r = record { section = r.section; start = r.number; length = r.length }

-- those of a row that has a number and no bytes
abbrev pub of_number : ℕ → Span
of_number n = record { section = 0; start = n; length = 0 }

-- the kind of a row that has this meaning, and its bytes or its number; a number with a sign is there as 64 bits
abbrev pub fields_of : Meaning → ℕ × Span
fields_of (Unsigned n) = (1, of_number n)
fields_of (Signed z) = (2, of_number (cast_unsigned w64 z))
fields_of (Flag b) = (3, of_number (if b then 1 else 0))
fields_of (Address n) = (4, of_number n)
fields_of (Text s) = (5, s)
fields_of (Block s) = (6, s)
fields_of (Expression s) = (7, s)
fields_of (Wide s) = (8, s)
fields_of (Reference id) = (9, of_number id)
fields_of (SectionOffset offset) = (10, of_number offset)
fields_of (LocationList k) = (11, of_number k)
fields_of (RangeList k) = (12, of_number k)

-- a row has this meaning
abbrev pub HasMeaning : Meaning → ValueRow → Type 0
HasMeaning m r = (r.kind, row_span r) ≡ fields_of m

-- ---- meanings

-- the address of a value of an entry, if it is one
abbrev pub address_in : Image → Entry → Datum → Option ℕ
address_in i e v = option_and_then (λ (p : PlacedUnit).
    address_of (sections_in i) p.unit.header (base_in (entries_in i) p DW_AT_addr_base) v)
    (slice_get (placed (units_in i)) e.unit)

-- the text of a value of an entry, if it is one
abbrev pub value_text : Image → Entry → Datum → Option (List ℕ)
value_text i e v = option_and_then (λ (p : PlacedUnit).
    text_of_value (sections_in i) (base_in (entries_in i) p DW_AT_str_offsets_base) v)
    (slice_get (placed (units_in i)) e.unit)

-- where that text is; the bytes that spell the value end at this offset of .debug_info
abbrev pub value_place : Image → Entry → (end : ℕ) → Datum → Option TextPlace
value_place i e end v = option_and_then (λ (p : PlacedUnit).
    text_place_of (sections_in i) (base_in (entries_in i) p DW_AT_str_offsets_base) v end)
    (slice_get (placed (units_in i)) e.unit)

-- the number of the entry that a value of an entry refers to, if it is a reference
abbrev pub target_in : Image → Entry → Datum → Option ℕ
target_in i e v = reach_of (entries_in i) (placed (units_in i)) e.unit v

-- the text of a value is these bytes
abbrev pub IsText : (h : Holders) → Image → Entry → (end : ℕ) → Datum → Span → Type 0
IsText h i e end v s =
    (t : List ℕ) × (p : TextPlace) × (value_text i e v ≡ Some t) × (value_place i e end v ≡ Some p)
    × IsTextSpan h t p s

-- a value is made of bytes in this way, and they are the last of those that spell it
abbrev pub IsOfBytes : (h : Holders) → (end : ℕ) → (List ℕ → Datum) → Datum → Span → Type 0
IsOfBytes h end made v s = (v ≡ made (bytes_of v)) × IsSpan h (Info (end - length (bytes_of v))) (bytes_of v) s

-- what a value of an entry means: never a form, and an index or an offset only where no rule is on what it leads to.
-- The bytes that spell the value end at this offset of .debug_info; the last of them are those of a block, an
-- expression or a number of 16 bytes, or those of a text in the value itself and its zero byte
abbrev pub IsMeaning : (h : Holders) → Image → Entry → (end : ℕ) → Datum → Meaning → Type 0
IsMeaning h i e end v (Unsigned n) = v ≡ unsigned n
IsMeaning h i e end v (Signed z) = v ≡ signed z
IsMeaning h i e end v (Flag b) = v ≡ flag b
IsMeaning h i e end v (Address n) = address_in i e v ≡ Some n
IsMeaning h i e end v (Text s) = IsText h i e end v s
IsMeaning h i e end v (Block s) = IsOfBytes h end block v s
IsMeaning h i e end v (Expression s) = IsOfBytes h end expr v s
IsMeaning h i e end v (Wide s) = IsOfBytes h end wide v s
IsMeaning h i e end v (Reference id) = target_in i e v ≡ Some id
IsMeaning h i e end v (SectionOffset offset) = v ≡ sec_offset offset
IsMeaning h i e end v (LocationList k) = v ≡ loc_index k
IsMeaning h i e end v (RangeList k) = v ≡ rng_index k

-- ---- rows

-- a value of an entry, and the entry's number
pub record Told : Type 0 where
  pub number : ℕ
  pub entry : Entry
  pub attribute : ℕ
  pub value : Datum
  pub end : ℕ

-- an attribute of an entry with its value and its place
abbrev pub told : ℕ → Entry → PlacedValue → Told
told number e p = record { number = number; entry = e; attribute = p.attribute; value = p.value; end = p.end }

-- the values of these entries, of which the first has this number, in the order of the entries and of their attributes
abbrev pub values_from : ℕ → List Entry → List Told
values_from number [] = []
values_from number (e ∷ more) = map (told number e) (placed_values e) ++ values_from (suc number) more

-- all values of an image
abbrev pub values_in : Image → List Told
values_in i = values_from 0 (entries_in i)

-- the row of a value: its entry, its attribute, what the value means, and a field that is 0
pub record IsValueRow (h : Holders) (i : Image) (t : Told) (r : ValueRow) : Type 0 where
  pub entry : r.entry ≡ t.number
  pub attribute_is : r.attribute ≡ t.attribute
  pub meaning : Meaning
  pub means : IsMeaning h i t.entry t.end t.value meaning
  pub says : HasMeaning meaning r
  pub zero_is : r.zero ≡ 0
