-- State: what is read once of a unit to check the rules on its strings and addresses.
use Rattle.std.specs.Prelude.{◌≡◌, ◌<◌, length, IfSome}
use Rattle.dw_elf.specs.Elf.{IsAfterLastZero}
use Rattle.dw_forms.specs.Codes.{DW_AT_str_offsets_base, DW_AT_addr_base}
use Rattle.dw_entries.specs.declared.entries.Entries.{Entries}
use Rattle.dw_entries.specs.Header.{IsSize}
use Rattle.dw_entries.specs.ByNumber.{placed_of}
use Rattle.dw_entries.specs.Lookups.{unit_head}
use Rattle.dw_entries.specs.Views.{sections_of, all_entries, all_units, units_of}
use Rattle.dw_links.specs.declared.strings.UnitContributions.{UnitContributions}
use Rattle.dw_links.specs.RulesOfAttributes.{Rules}
use Rattle.dw_links.specs.Contributions.{IsCount}
use Rattle.dw_links.specs.Strings.{StringFailsIn, base_in}

-- what was read of a unit is right: the size of its addresses, its contributions, and where strings end
pub record IsReady (texts : UnitContributions) : Type 0 where
  pub address_size : IsSize texts.head.header.address_size
  pub strings : IfSome texts.str_base (λ base. IsCount texts.sections.str_offsets.now 4 0 base texts.strings)
  pub addresses : IfSome texts.addr_base (λ base. IsCount texts.sections.addr.now
      texts.head.header.address_size texts.head.header.address_size base texts.addresses)
  pub str_end : IsAfterLastZero texts.sections.str.now texts.str_end
  pub line_str_end : IsAfterLastZero texts.sections.line_str.now texts.line_str_end

-- the rules on strings and addresses, by what was read of the unit
abbrev pub FailsByTexts : UnitContributions → Rules
FailsByTexts texts = StringFailsIn texts.sections texts.head.header texts.str_base texts.addr_base

-- what was read is that of its unit
pub record AreContributions (entries : Entries) (texts : UnitContributions) : Type 0 where
  pub ready : IsReady texts
  pub same_sections : texts.sections ≡ sections_of entries
  pub within : texts.unit < length (units_of entries)
  pub head : texts.head ≡ unit_head (placed_of (all_units entries) texts.unit)
  pub str_base : texts.str_base
      ≡ base_in (all_entries entries) (placed_of (all_units entries) texts.unit) DW_AT_str_offsets_base
  pub addr_base : texts.addr_base
      ≡ base_in (all_entries entries) (placed_of (all_units entries) texts.unit) DW_AT_addr_base
