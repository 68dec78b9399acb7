-- Chapter: the offset at which a unit's contribution starts (DWARF 5, 7.26 and 7.27).
use Rattle.std.specs.Prelude.{ℕ, ◌==◌, List, map, Option, None, Some, slice_get, if◌then◌else◌, option_and_then}
use Rattle.dw_forms.specs.Value.{Datum, sec_offset}
pub use Rattle.dw_entries.specs.Header.{version_of}
pub use Rattle.dw_entries.specs.Lookups.{value_at_entry, Entry, PlacedUnit}

-- the offset into a section that a value is, if its class is that of such offsets
abbrev pub section_offset_in : Datum → Option ℕ
section_offset_in (sec_offset offset) = Some offset
section_offset_in _ = None

-- the offset into a section under an attribute of an entry
abbrev pub section_offset_of : Entry → ℕ → Option ℕ
section_offset_of entry attribute = option_and_then section_offset_in (value_at_entry entry attribute)

-- the base that a unit's first entry gives to its contribution; in version 4 there is none
abbrev pub base_in : List Entry → PlacedUnit → ℕ → Option ℕ
base_in entries unit attribute =
    if version_of unit.unit.header.kind == 4 then None else option_and_then
    (λ first. section_offset_of first attribute) (slice_get entries unit.first)

-- the bases of all units under an attribute
abbrev pub bases_in : List Entry → List PlacedUnit → (attribute : ℕ) → List (Option ℕ)
bases_in entries units attribute = map (λ unit. base_in entries unit attribute) units

-- the base of the unit with this number, among those of all units
abbrev pub kept_base : (bases : List (Option ℕ)) → (number : ℕ) → Option ℕ
kept_base bases number = option_and_then (λ base. base) (slice_get bases number)
