-- Chapter: the ranges of an entry (DWARF 5, 2.17), and what the first entry of its unit says of addresses (3.1.1).
use Rattle.std.specs.Prelude.{◌≡◌, ℕ, List, [], Option, None, Some, Result, Ok, Err, option_and_then}
use Rattle.dw_forms.specs.Codes.{DW_AT_addr_base, DW_AT_high_pc, DW_AT_low_pc, DW_AT_ranges}
use Rattle.dw_forms.specs.Formats.{as_other}
use Rattle.dw_forms.specs.Value.{Datum, sec_offset}
use Rattle.dw_entries.specs.declared.entries.Entries.{Entries}
use Rattle.dw_entries.specs.declared.units.UnitHead.{UnitHead}
use Rattle.dw_entries.specs.ByNumber.{placed_of, entry_of, Entry}
use Rattle.dw_entries.specs.Header.{version_of}
use Rattle.dw_entries.specs.Lookups.{value_at_entry, unit_head}
use Rattle.dw_entries.specs.Views.{sections_of, all_entries, all_units}
use Rattle.dw_ranges.specs.Bounds.{address_of, ranges_of}
use Rattle.dw_ranges.specs.Contributions.{contribution_at}
use Rattle.dw_ranges.specs.declared.addresses.UnitAddresses.{UnitAddresses}
use Rattle.dw_ranges.specs.declared.bounds.RangeSections.{RangeSections}
use Rattle.dw_ranges.specs.declared.fault.RangeFault.{RangeFault}
use Rattle.dw_ranges.specs.declared.range.Range.{Range}

-- the code of an attribute (7.5.4, Table 7.5)
abbrev pub DW_AT_rnglists_base : ℕ
DW_AT_rnglists_base = 0x74

-- the offset into a section that a value is
abbrev pub offset_in : Datum → Option ℕ
offset_in (sec_offset offset) = Some offset
offset_in datum = None

-- what was found, or nothing
abbrev pub or_none : {A E : Type 0} → Result A E → Option A
or_none (Ok a) = Some a
or_none (Err e) = None

-- the same of a list
abbrev pub or_empty : {A E : Type 0} → Result (List A) E → List A
or_empty (Ok xs) = xs
or_empty (Err e) = []

-- the slots of the contribution to .debug_addr. DW_AT_addr_base is the offset of its first slot, after a header of 8
-- bytes (7.27). Without a contribution there are none
abbrev pub slots_in : ℕ → List ℕ → Option ℕ → List ℕ
slots_in size section None = []
slots_in size section (Some base) = or_empty (contribution_at size section base 8)

-- the base address of a unit with this DW_AT_low_pc
abbrev pub base_address : ℕ → List ℕ → Option Datum → Option ℕ
base_address size slots None = None
base_address size slots (Some low) = or_none (address_of size slots low)

-- the unit with a number
abbrev pub head_in : Entries → ℕ → UnitHead
head_in entries number = unit_head (placed_of (all_units entries) number)

-- the value of an attribute of its first entry
abbrev pub first_value : Entries → ℕ → ℕ → Option Datum
first_value entries number attribute =
    value_at_entry (entry_of (all_entries entries) (head_in entries number).first) attribute

-- this is what the header and the first entry of the unit with a number say
pub record AreAddressesOf (entries : Entries) (number : ℕ) (unit : UnitAddresses) : Type 0 where
  pub version : unit.version ≡ version_of (head_in entries number).header.kind
  pub address_size : unit.address_size ≡ (head_in entries number).header.address_size
  pub slots : unit.slots.now ≡ slots_in unit.address_size (sections_of entries).addr.now
      (option_and_then offset_in (first_value entries number DW_AT_addr_base))
  pub base : unit.base ≡ base_address unit.address_size unit.slots.now
      (first_value entries number DW_AT_low_pc)
  pub lists_base : unit.lists_base ≡ option_and_then offset_in (first_value entries number DW_AT_rnglists_base)

-- the ranges of an entry and how many bytes their list has, or the first rule that it violates
unfoldable pub entry_ranges : RangeSections → UnitAddresses → Entry → Result (List Range × ℕ) RangeFault
entry_ranges sections unit e = as_other (λ rule. record { rule = rule; at = e.at })
    (ranges_of sections unit (value_at_entry e DW_AT_low_pc) (value_at_entry e DW_AT_high_pc)
    (value_at_entry e DW_AT_ranges))
