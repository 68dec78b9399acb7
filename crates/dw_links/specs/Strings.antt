-- Chapter: the rules on strings and addresses (DWARF 5, 7.26 and 7.27).
use Rattle.std.specs.Prelude.{◌≡◌, ◌≢◌, ℕ, ◌<◌, ◌≤◌, ◌⊎◌, List, Option, None, Some, slice_get}
pub use Rattle.dw_elf.specs.declared.sections.Sections.{Sections}
use Rattle.dw_forms.specs.Value.{Datum, str, line_str, str_index, addr_index, sec_offset}
use Rattle.dw_forms.specs.declared.rule.Rule.TheVariants.{BadStrBase, StrIndex, StringEnd, BadAddrBase, AddrIndex}
pub use Rattle.dw_entries.specs.declared.header.UnitHeader.{UnitHeader}
use Rattle.dw_entries.specs.Entries.{Entry, PlacedUnit, entries_of, placed, DebugUnit}
use Rattle.dw_links.specs.RulesOfAttributes.{AtHead, AtEntries, Failure, Rule, EntryHead}
use Rattle.dw_forms.specs.Codes.{DW_AT_str_offsets_base, DW_AT_addr_base}
use Rattle.dw_links.specs.Contributions.{IsContribution, slot_count, slot_at, HasZeroFrom}
pub use Rattle.dw_links.specs.Bases.{base_in, version_of}

-- the header of a string contribution ends with two zero bytes, and a slot has 4 bytes
abbrev pub IsStringContribution : Sections → ℕ → Type 0
IsStringContribution sections base = IsContribution sections.str_offsets.now 4 0 base

-- the header of an address contribution ends with the unit's address size, which a slot has too, and a zero byte
abbrev pub IsAddressContribution : Sections → UnitHeader → ℕ → Type 0
IsAddressContribution sections header base =
    IsContribution sections.addr.now header.address_size header.address_size base

-- BadStrBase and BadAddrBase at a base
abbrev pub BaseFails : Sections → UnitHeader → ℕ → ℕ → Rule → Type 0
BaseFails sections header attribute base rule =
    ((attribute ≡ DW_AT_str_offsets_base) × (rule ≡ BadStrBase) × (IsStringContribution sections base → ⊥))
    ⊎ ((attribute ≡ DW_AT_addr_base) × (rule ≡ BadAddrBase) × (IsAddressContribution sections header base → ⊥))

-- at an indexed string: the unit names no contribution; it has no such index; no string begins where the slot says;
-- under a broken contribution none of them fails
abbrev pub StringIndexFails : Sections → (base : Option ℕ) → ℕ → Rule → Type 0
StringIndexFails sections None index BadStrBase = Unit {0}
StringIndexFails sections (Some base) index StrIndex = IsStringContribution sections base
    × (slot_count sections.str_offsets.now 4 base ≤ index)
StringIndexFails sections (Some base) index StringEnd =
    IsStringContribution sections base × (index < slot_count sections.str_offsets.now 4 base)
    × (HasZeroFrom sections.str.now (slot_at sections.str_offsets.now 4 base index) → ⊥)
StringIndexFails sections base index _ = ⊥

-- at an indexed address: the unit names no contribution, or it has no such index
abbrev pub AddressIndexFails : Sections → UnitHeader → (base : Option ℕ) → ℕ → Rule → Type 0
AddressIndexFails sections header None index BadAddrBase = Unit {0}
AddressIndexFails sections header (Some base) index AddrIndex = IsAddressContribution sections header base
    × (slot_count sections.addr.now header.address_size base ≤ index)
AddressIndexFails sections header base index _ = ⊥

-- at an offset into a section of strings: no string begins there
abbrev pub OffsetFails : List ℕ → ℕ → Rule → Type 0
OffsetFails section offset StringEnd = HasZeroFrom section offset → ⊥
OffsetFails section offset _ = ⊥

-- the rules at an attribute of a unit that has this header and these bases
abbrev pub StringFailsIn : Sections → UnitHeader → (strings addresses : Option ℕ) → EntryHead → ℕ → Datum → Rule
    → Type 0
StringFailsIn sections header strings addresses head attribute (str offset) rule =
    OffsetFails sections.str.now offset rule
StringFailsIn sections header strings addresses head attribute (line_str offset) rule =
    OffsetFails sections.line_str.now offset rule
StringFailsIn sections header strings addresses head attribute (str_index index) rule =
    StringIndexFails sections strings index rule
StringFailsIn sections header strings addresses head attribute (addr_index index) rule =
    AddressIndexFails sections header addresses index rule
StringFailsIn sections header strings addresses head attribute (sec_offset base) rule =
    (head.parent ≡ None) × (version_of header.kind ≢ 4) × BaseFails sections header attribute base rule
StringFailsIn sections header strings addresses head attribute _ rule = ⊥

-- the rules at an attribute of an entry
pub record StringFails (sections : Sections) (entries : List Entry) (units : List PlacedUnit) (head : EntryHead)
    (attribute : ℕ) (v : Datum) (rule : Rule) : Type 0 where
  pub unit : PlacedUnit
  pub in_unit : slice_get units head.unit ≡ Some unit
  pub fails : StringFailsIn sections unit.unit.header (base_in entries unit DW_AT_str_offsets_base)
      (base_in entries unit DW_AT_addr_base) head attribute v rule

-- the failures of the rules on strings and addresses
abbrev pub StringFailures : Sections → List DebugUnit → Failure → Type 0
StringFailures sections units =
    AtEntries (entries_of units) (AtHead (StringFails sections (entries_of units) (placed units)))
