-- Chapter: the header of a unit (DWARF 5, 7.5.1; DWARF 4, 7.5.1.1).
use Rattle.std.specs.Prelude.{◌≡◌, ℕ, ◌⊎◌, Bool, List, Result, Ok, nat_lt, ◌==◌, ◌||◌, if◌then◌else◌}
use Rattle.dw_forms.specs.BaseFormats.{fixed_number, so_many}
use Rattle.dw_forms.specs.Codes.{DW_TAG_compile_unit, DW_TAG_partial_unit, DW_TAG_type_unit}
use Rattle.dw_forms.specs.Formats.{Format, and_then, nothing, failing, mapped, inside, choose, tested}
use Rattle.dw_forms.specs.Steps.{◌>>=◌}
pub use Rattle.dw_forms.specs.declared.rule.Rule.{Rule}
use Rattle.dw_forms.specs.declared.rule.Rule.TheVariants.{UnitCut, Not32Bit, BadVersion, BadUnitType, BadAddressSize}
use Rattle.dw_forms.specs.declared.rule.Rule.TheVariants.{BadAbbrevOffset}
pub use Rattle.dw_entries.specs.declared.header.HeaderKind.{HeaderKind}
use Rattle.dw_entries.specs.declared.header.HeaderKind.TheVariants.{Version4, CompileUnit, PartialUnit, TypeUnit}
pub use Rattle.dw_entries.specs.declared.header.UnitHeader.{UnitHeader}
use Rattle.dw_entries.specs.declared.header.UnitType.{UnitType}
use Rattle.dw_entries.specs.declared.header.UnitType.TheVariants as types

-- the version of a unit with this header
abbrev pub version_of : HeaderKind → ℕ
version_of Version4 = 4
version_of kind = 5

-- the code of a type of units, in a header of version 5
abbrev pub code_of_type : UnitType → ℕ
code_of_type types.CompileUnit = 1
code_of_type types.TypeUnit = 2
code_of_type types.PartialUnit = 3

-- the type of a unit with this header: in version 4 it is that of the first entry's tag
abbrev pub type_of : HeaderKind → ℕ → UnitType
type_of Version4 tag = if tag == DW_TAG_partial_unit then types.PartialUnit else types.CompileUnit
type_of CompileUnit tag = types.CompileUnit
type_of (TypeUnit signature type_offset) tag = types.TypeUnit
type_of PartialUnit tag = types.PartialUnit

-- whether the unit's first entry may have this tag: compile_unit, type_unit or partial_unit by the unit's type
abbrev pub fits_tag : HeaderKind → ℕ → Bool
fits_tag Version4 tag = tag == DW_TAG_compile_unit || tag == DW_TAG_partial_unit
fits_tag CompileUnit tag = tag == DW_TAG_compile_unit
fits_tag (TypeUnit signature type_offset) tag = tag == DW_TAG_type_unit
fits_tag PartialUnit tag = tag == DW_TAG_partial_unit

-- the size of a header, unit_length included
abbrev pub unit_header_size : HeaderKind → ℕ
unit_header_size Version4 = 11
unit_header_size (TypeUnit signature type_offset) = 24
unit_header_size kind = 12

-- how many bytes an address has
abbrev pub IsSize : ℕ → Type 0
IsSize size = (size ≡ 4) ⊎ (size ≡ 8)

-- the versions of units that are read
abbrev pub IsVersion : ℕ → Type 0
IsVersion version = (version ≡ 4) ⊎ (version ≡ 5)

-- ---- the fields, where .debug_abbrev has so many bytes

-- a field of so many bytes, the lowest first
abbrev pub field : ℕ → Format ℕ Rule
field size = fixed_number UnitCut size

-- the size of an address: 4 or 8
unfoldable pub address_size : Format ℕ Rule
address_size = tested (λ size. size == 4 || size == 8) BadAddressSize (field 1)

-- the offset of the table
unfoldable pub abbrev_offset : ℕ → Format ℕ Rule
abbrev_offset abbrev_size = tested (λ offset. nat_lt offset abbrev_size) BadAbbrevOffset (field 4)

-- the fields after a version of 4
unfoldable pub version4 : ℕ → ℕ → Format UnitHeader Rule
version4 abbrev_size unit_length =
    and_then (abbrev_offset abbrev_size) (λ offset.
    mapped (λ size. record {
      unit_length = unit_length;
      kind = Version4;
      address_size = size;
      abbrev_offset = offset;
    }) address_size)

-- the fields of a type unit alone, after those that all have
unfoldable pub kind_fields : ℕ → Format HeaderKind Rule
kind_fields code = choose (code == 1) (nothing CompileUnit) (choose (code == 3) (nothing PartialUnit) (
    and_then (field 8) (λ signature. mapped (TypeUnit signature) (field 4))))

-- the code of the unit's type: a compile unit, a type unit or a partial unit
abbrev pub type_code : Format ℕ Rule
type_code = tested (λ code. code == 1 || code == 2 || code == 3) BadUnitType (field 1)

-- the fields after a version of 5
unfoldable pub version5 : ℕ → ℕ → Format UnitHeader Rule
version5 abbrev_size unit_length =
    and_then type_code (λ code. and_then address_size (λ size. and_then (abbrev_offset abbrev_size) (λ offset.
    mapped (λ kind. record {
      unit_length = unit_length;
      kind = kind;
      address_size = size;
      abbrev_offset = offset;
    }) (kind_fields code))))

-- the fields after unit_length
unfoldable pub header_fields : ℕ → ℕ → Format UnitHeader Rule
header_fields abbrev_size unit_length = and_then (field 2) (λ version.
    choose (version == 4) (version4 abbrev_size unit_length) (
    choose (version == 5) (version5 abbrev_size unit_length) (failing BadVersion)))

-- unit_length, which counts the bytes of the unit after it, and these bytes. From 0xfffffff0 on it marks other formats
abbrev pub unit_content : Format (ℕ × List ℕ) Rule
unit_content = and_then (tested (λ len. nat_lt len 0xfffffff0) Not32Bit (field 4)) (λ len.
    mapped (λ content. (len, content)) (so_many UnitCut len))

-- the bytes of a unit: its header, and those after the header
unfoldable pub header_and_body : ℕ → Format (UnitHeader × List ℕ) Rule
header_and_body abbrev_size = and_then unit_content (λ unit. inside unit.1 (header_fields abbrev_size unit.0))

-- unit_length and the bytes that it counts, at the front of the bytes
unfoldable pub unit_at : List ℕ → Result (ℕ × List ℕ) Rule
unit_at bytes = unit_content.read bytes >>= λ unit. Ok unit.0

-- a header at the front of the bytes and the bytes of its unit after it, or the first check that fails
unfoldable pub header_at : ℕ → List ℕ → Result (UnitHeader × List ℕ) Rule
header_at abbrev_size bytes = unit_at bytes >>= λ unit. (header_fields abbrev_size unit.0).read unit.1
