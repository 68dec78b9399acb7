-- State: what is read once of all units, to follow the values of attributes.
use Rattle.std.specs.Prelude.{◌≡◌, ℕ, List, map, Option}
use Rattle.dw_forms.specs.Codes.{DW_AT_type, DW_AT_str_offsets_base, DW_AT_addr_base}
use Rattle.dw_entries.specs.ByNumber.{placed_of}
use Rattle.dw_entries.specs.declared.header.UnitHeader.{UnitHeader}
pub use Rattle.dw_links.specs.declared.tables.LinkTables.{LinkTables}
use Rattle.dw_links.specs.Bases.{base_in, bases_in}
use Rattle.dw_links.specs.Constants.{language_of}
use Rattle.dw_links.specs.SignedTypes.{HasSignedTypes, Entries, all_entries, all_units, Entry, PlacedUnit}
use Rattle.dw_links.specs.Targets.{target_of}

-- the target of an entry's type
abbrev pub target_of_type : List Entry → List PlacedUnit → Entry → Option ℕ
target_of_type entries units e = target_of entries units e DW_AT_type

-- the tables of these entries: the type of each signature, the bases and the language of each unit, and the target of
-- each entry's type
pub record AreTables (entries : Entries) (tables : LinkTables) : Type 0 where
  pub signatures : HasSignedTypes entries tables.signatures
  pub str_bases : tables.str_bases.items
      ≡ bases_in (all_entries entries) (all_units entries) DW_AT_str_offsets_base
  pub addr_bases : tables.addr_bases.items
      ≡ bases_in (all_entries entries) (all_units entries) DW_AT_addr_base
  pub languages : tables.languages.items ≡ map language_of (all_units entries)
  pub types : tables.types.items ≡ map (target_of_type (all_entries entries) (all_units entries))
      (all_entries entries)

-- the base that the unit with this number has under an attribute
abbrev pub base_at : Entries → (unit attribute : ℕ) → Option ℕ
base_at entries unit attribute = base_in (all_entries entries) (placed_of (all_units entries) unit) attribute

-- the header of the unit with this number
abbrev pub header_at : Entries → (unit : ℕ) → UnitHeader
header_at entries unit = (placed_of (all_units entries) unit).unit.header
