-- Chapter: the text or the address of an attribute of an entry (DWARF 5, 7.26 and 7.27).
use Rattle.std.specs.Prelude.{ℕ, List, Option, slice_get, option_and_then}
use Rattle.dw_forms.specs.Codes.{DW_AT_str_offsets_base, DW_AT_addr_base}
use Rattle.dw_links.specs.Bases.{base_in, value_at_entry, Entry, PlacedUnit}
use Rattle.dw_entries.specs.ValuePlaces.{PlacedValue, placed_value_at}
use Rattle.dw_links.specs.ValueTexts.{text_of_value, text_place_of, address_of, Sections, TextPlace}

-- the text of an attribute of an entry; None where the attribute is absent or no string
unfoldable pub text_at : Sections → List Entry → List PlacedUnit → Entry → (attribute : ℕ) → Option (List ℕ)
text_at sections entries units e attribute =
    option_and_then (λ (p : PlacedUnit). option_and_then
    (text_of_value sections (base_in entries p DW_AT_str_offsets_base))
    (value_at_entry e attribute)) (slice_get units e.unit)

-- where the text of an attribute of an entry is; None where the attribute is absent or no string
unfoldable pub text_place_at : Sections → List Entry → List PlacedUnit → Entry → (attribute : ℕ) → Option TextPlace
text_place_at sections entries units e attribute =
    option_and_then (λ (p : PlacedUnit). option_and_then
    (λ (v : PlacedValue). text_place_of sections (base_in entries p DW_AT_str_offsets_base) v.value v.end)
    (placed_value_at e attribute)) (slice_get units e.unit)

-- the address of an attribute of an entry; None where the attribute is absent or no address
unfoldable pub address_at : Sections → List Entry → List PlacedUnit → Entry → (attribute : ℕ) → Option ℕ
address_at sections entries units e attribute =
    option_and_then (λ (p : PlacedUnit).
    option_and_then (address_of sections p.unit.header (base_in entries p DW_AT_addr_base))
    (value_at_entry e attribute)) (slice_get units e.unit)
