-- Chapter: the addresses of a unit: their size, those of its contribution to .debug_addr (DWARF 5, 7.27), and ranges
-- between two of them (2.17.3).
use Rattle.std.specs.Prelude.{List, ℕ, ◌≤◌, ◌*◌, ◌/◌, length, drop, Result, Ok, Err, Option, Some, None, nat_lt, nat_le}
use Rattle.std.specs.Prelude.{◌==◌, ◌&&◌, if◌then◌else◌}
use Rattle.byteorder.specs.Endian.{little_number}
use Rattle.dw_ranges.specs.declared.range.Range.{Range}
use Rattle.dw_ranges.specs.declared.rule.RangeRule.{RangeRule}
use Rattle.dw_ranges.specs.declared.rule.RangeRule.TheVariants.{BadRange, NoBase, RangeIndex}

-- the greatest address of so many bytes, which are 4 or 8
abbrev pub greatest_address : ℕ → ℕ
greatest_address size = if size == 8 then 0xffffffffffffffff else 0xffffffff

-- a range does not end before it starts, and does not pass the greatest address
abbrev pub IsBounded : ℕ → Range → Type 0
IsBounded size r = (r.low ≤ r.high) × (r.high ≤ greatest_address size)

-- the range between two addresses, which does not end before it starts; no address passes the greatest
abbrev pub bounded : ℕ → ℕ → ℕ → Result Range RangeRule
bounded size low high =
    if nat_le low high && nat_le high (greatest_address size) then Ok (record { low = low; high = high })
    else Err BadRange

-- the address in the slot with an index, where an address has so many bytes
unfoldable pub indexed : ℕ → List ℕ → ℕ → Result ℕ RangeRule
indexed size slots index =
    if nat_lt index (length slots / size) then Ok (little_number size (drop (size * index) slots)) else Err RangeIndex

-- the base address that offsets count from, if there is one
abbrev pub based : Option ℕ → Result ℕ RangeRule
based (Some base) = Ok base
based None = Err NoBase
