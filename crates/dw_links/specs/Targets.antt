-- Chapter: the target of a reference and of an attribute (DWARF 5, 2.3 and 7.5.5).
use Rattle.std.specs.Prelude.{ℕ, ◌+◌, ◌&&◌, ◌==◌, List, Option, None, slice_get, option_and_then}
use Rattle.std.specs.List.{position_from}
use Rattle.dw_forms.specs.Value.{Datum, ref_info, ref_unit, ref_sig}
use Rattle.dw_entries.specs.Lookups.{value_at_entry, Entry, PlacedUnit}
use Rattle.dw_links.specs.Signatures.{type_unit_of, first_signed}

-- the number of the entry that begins at an offset of .debug_info
unfoldable pub entry_at : List Entry → (offset : ℕ) → Option ℕ
entry_at entries offset = position_from (λ (e : Entry). e.at == offset) 0 entries

-- the number of the entry of a unit that begins at an offset of .debug_info
unfoldable pub entry_number_at : List Entry → (unit offset : ℕ) → Option ℕ
entry_number_at entries unit offset = position_from (λ (e : Entry). e.unit == unit && e.at == offset) 0 entries

-- the entry that begins so far after the first byte of a unit's header
abbrev pub reach_in_unit : List Entry → List PlacedUnit → (unit offset : ℕ) → Option ℕ
reach_in_unit entries units unit offset =
    option_and_then (λ (u : PlacedUnit). entry_number_at entries unit (u.at + offset)) (slice_get units unit)

-- the entry at the type offset of a type unit
abbrev pub type_of_unit : List Entry → List PlacedUnit → (unit : ℕ) → Option ℕ
type_of_unit entries units unit =
    option_and_then (λ (u : PlacedUnit). option_and_then
    (λ (type : ℕ × ℕ). reach_in_unit entries units unit type.1) (type_unit_of u.unit.header.kind))
    (slice_get units unit)

-- the type of the first type unit that has the signature
abbrev pub signed_type : List Entry → List PlacedUnit → (signature : ℕ) → Option ℕ
signed_type entries units signature = option_and_then (type_of_unit entries units) (first_signed units signature)

-- the number of the entry that a value in a unit refers to; None if it is no reference or no entry is there
abbrev pub reach_of : List Entry → List PlacedUnit → (unit : ℕ) → Datum → Option ℕ
reach_of entries units unit (ref_info offset) = entry_at entries offset
reach_of entries units unit (ref_unit offset) = reach_in_unit entries units unit offset
reach_of entries units unit (ref_sig signature) = signed_type entries units signature
reach_of entries units unit _ = None

-- the number of the entry that an attribute of an entry refers to; None if the attribute is absent or no reference
unfoldable pub target_of : List Entry → List PlacedUnit → Entry → (attribute : ℕ) → Option ℕ
target_of entries units e attribute = option_and_then (reach_of entries units e.unit) (value_at_entry e attribute)
