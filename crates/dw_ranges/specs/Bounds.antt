-- Chapter: the ranges of an entry (DWARF 5, 2.17), by the values of its attributes DW_AT_low_pc, DW_AT_high_pc and
-- DW_AT_ranges.
use Rattle.std.specs.Prelude.{ℕ, ◌+◌, ◌-◌, pos, negsuc, List, [], ◌∷◌, ◌++◌, length, Option, None, Some}
use Rattle.std.specs.Prelude.{Result, Ok, Err, ◌==◌, if◌then◌else◌}
use Rattle.dw_forms.specs.Formats.{as_other}
use Rattle.dw_forms.specs.Steps.{◌>>=◌, on_option}
use Rattle.dw_forms.specs.Value.{Datum, address, unsigned, signed, sec_offset, addr_index, rng_index}
use Rattle.dw_ranges.specs.Addresses.{indexed, bounded}
use Rattle.dw_ranges.specs.Contributions.{indexed_list}
use Rattle.dw_ranges.specs.RangeLists.{list_at}
use Rattle.dw_ranges.specs.declared.addresses.UnitAddresses.{UnitAddresses}
use Rattle.dw_ranges.specs.declared.bounds.RangeSections.{RangeSections}
use Rattle.dw_ranges.specs.declared.fault.ListFault.{ListFault}
use Rattle.dw_ranges.specs.declared.range.Range.{Range}
use Rattle.dw_ranges.specs.declared.rule.RangeRule.{RangeRule}
use Rattle.dw_ranges.specs.declared.rule.RangeRule.TheVariants.{BadBounds, BadHigh, NoList}

-- the address that a value of class address is, by the slots of the unit
abbrev pub address_of : ℕ → List ℕ → Datum → Result ℕ RangeRule
address_of size slots (address a) = Ok a
address_of size slots (addr_index index) = indexed size slots index
address_of size slots datum = Err BadBounds

-- the range up to an address
abbrev pub range_to : UnitAddresses → ℕ → ℕ → Result Range RangeRule
range_to unit low high = as_other (λ rule. BadHigh) (bounded unit.address_size low high)

-- the range up to the value of DW_AT_high_pc: an address, or a constant, which is a count of bytes (2.17.2)
abbrev pub range_up : UnitAddresses → ℕ → Datum → Result Range RangeRule
range_up unit low (unsigned len) = range_to unit low (low + len)
range_up unit low (signed (pos len)) = range_to unit low (low + len)
range_up unit low (signed (negsuc n)) = Err BadHigh
range_up unit low datum = address_of unit.address_size unit.slots.now datum >>= λ high. range_to unit low high

-- the range of DW_AT_low_pc and DW_AT_high_pc
abbrev pub range_between : UnitAddresses → Option Datum → Datum → Result Range RangeRule
range_between unit None high = Err BadBounds
range_between unit (Some low) high = address_of unit.address_size unit.slots.now low >>= λ a. range_up unit a high

-- the bytes from which the offset of a list counts, and that offset, by the value of DW_AT_ranges: an offset into
-- .debug_rnglists, in version 4 into .debug_ranges, or an index
abbrev pub list_of : RangeSections → UnitAddresses → Datum → Result (List ℕ × ℕ) RangeRule
list_of sections unit (sec_offset offset) =
    Ok ((if unit.version == 4 then sections.ranges.now else sections.rnglists.now), offset)
list_of sections unit (rng_index index) = on_option unit.lists_base (Err NoList) (λ base.
    indexed_list unit.address_size sections.rnglists.now base index)
list_of sections unit datum = Err BadBounds

-- the rule alone
abbrev pub rule_of : ListFault → RangeRule
rule_of fault = fault.rule

-- the ranges of the list that a value of DW_AT_ranges names, and how many bytes the list has
abbrev pub listed_ranges : RangeSections → UnitAddresses → Datum → Result (List Range × ℕ) RangeRule
listed_ranges sections unit datum =
    list_of sections unit datum >>= λ p. as_other rule_of (list_at unit p.0 p.1)
    >>= λ x. Ok (x.0, length p.0 - length x.1 - p.1)

-- the ranges that the values of DW_AT_low_pc, DW_AT_high_pc and DW_AT_ranges say, and how many bytes their list has; or
-- the first rule that they violate. DW_AT_low_pc alone is one address, or the base address of a unit, and no range
-- (2.17.1, 3.1.1)
unfoldable pub ranges_of : RangeSections → UnitAddresses → (low high ranges : Option Datum)
    → Result (List Range × ℕ) RangeRule
ranges_of sections unit low None None = Ok ([], 0)
ranges_of sections unit low (Some high) None = range_between unit low high >>= λ r. Ok (r ∷ [], 0)
ranges_of sections unit low None (Some list) = listed_ranges sections unit list
ranges_of sections unit low (Some high) (Some list) = Err BadBounds

-- the same ranges after earlier ones
abbrev pub after : {E : Type 0} → List Range → Result (List Range × ℕ) E → Result (List Range × ℕ) E
after earlier r = r >>= λ x. Ok (earlier ++ x.0, x.1)
