-- Chapter: range lists (DWARF 5, 2.17.3 and 7.25; DWARF 4, 2.17.3): the ranges that the entries of a list stand for.
use Rattle.std.specs.Prelude.{ℕ, zero, suc, ◌+◌, ◌-◌, List, [], ◌∷◌, ◌++◌, length, drop, Option, Some}
use Rattle.std.specs.Prelude.{Result, Ok, Err, nat_lt}
use Rattle.dw_forms.specs.Formats.{Format, and_then, nothing, failing, mapped, choose, renamed}
use Rattle.dw_forms.specs.Steps.{◌>>=◌}
use Rattle.dw_ranges.specs.Addresses.{indexed, based, bounded}
use Rattle.dw_ranges.specs.ListEntries.{entry}
use Rattle.dw_ranges.specs.declared.addresses.UnitAddresses.{UnitAddresses}
use Rattle.dw_ranges.specs.declared.fault.ListFault.{ListFault}
use Rattle.dw_ranges.specs.declared.list.Meaning.{Meaning}
use Rattle.dw_ranges.specs.declared.list.Meaning.TheVariants.{End, Base, Bounded}
use Rattle.dw_ranges.specs.declared.list_entry.ListEntry.{ListEntry}
use Rattle.dw_ranges.specs.declared.list_entry.ListEntry.TheVariants.{EndOfList, BaseAddressx, StartxEndx, StartxLength}
use Rattle.dw_ranges.specs.declared.list_entry.ListEntry.TheVariants.{OffsetPair, BaseAddress, StartEnd, StartLength}
use Rattle.dw_ranges.specs.declared.range.Range.{Range}
use Rattle.dw_ranges.specs.declared.rule.RangeRule.{RangeRule}
use Rattle.dw_ranges.specs.declared.rule.RangeRule.TheVariants.{NoList, BadList}

-- a bounded range
abbrev pub range : UnitAddresses → ℕ → ℕ → Result Meaning RangeRule
range unit low high = bounded unit.address_size low high >>= λ r. Ok (Bounded r)

-- the address in a slot of the unit
abbrev pub indexed_in : UnitAddresses → ℕ → Result ℕ RangeRule
indexed_in unit index = indexed unit.address_size unit.slots.now index

-- what an entry means after this base address, by its kind (2.17.3)
unfoldable pub meaning : UnitAddresses → Option ℕ → ListEntry → Result Meaning RangeRule
meaning unit base EndOfList = Ok End
meaning unit base (BaseAddressx index) = indexed_in unit index >>= λ address. Ok (Base address)
meaning unit base (StartxEndx start end) =
    indexed_in unit start >>= λ low. indexed_in unit end >>= λ high. range unit low high
meaning unit base (StartxLength start len) = indexed_in unit start >>= λ low. range unit low (low + len)
meaning unit base (OffsetPair start end) = based base >>= λ b. range unit (b + start) (b + end)
meaning unit base (BaseAddress address) = Ok (Base address)
meaning unit base (StartEnd low high) = range unit low high
meaning unit base (StartLength low len) = range unit low (low + len)

-- what was found, without bytes
abbrev pub known : {A E : Type 0} → Result A E → Format A E
known (Ok a) = nothing a
known (Err e) = failing e

-- an entry, as what it means
unfoldable pub meant : UnitAddresses → Option ℕ → Format Meaning RangeRule
meant unit base = and_then (entry unit.version unit.address_size) (λ e. known (meaning unit base e))

-- the same in a section of so many bytes, whose end the bytes reach. The entry is the place of a fault
abbrev pub placed : UnitAddresses → ℕ → Option ℕ → Format Meaning ListFault
placed unit end base = renamed (λ bytes rule. record { rule = rule; at = end - length bytes }) (meant unit base)

-- the ranges of an entry and of those after it. A base address is that of the entries after it
abbrev pub ranges_with : (Option ℕ → Format (List Range) ListFault) → Option ℕ → Meaning → Format (List Range) ListFault
ranges_with after base End = nothing []
ranges_with after base (Base address) = after (Some address)
ranges_with after base (Bounded r) = mapped (λ rs. r ∷ rs) (after base)

-- the ranges of the entries up to the end of the list, of which there are fewer than a bound, from this base address on
unfoldable pub ranges_from : UnitAddresses → ℕ → ℕ → Option ℕ → Format (List Range) ListFault
ranges_from unit end zero base = failing (record { rule = BadList; at = end })
ranges_from unit end (suc bound) base = and_then (placed unit end base) (ranges_with (ranges_from unit end bound) base)

-- a list at an offset of a section of so many bytes. The base address of the unit is the first one
abbrev pub range_list : UnitAddresses → ℕ → ℕ → Format (List Range) ListFault
range_list unit end offset = choose (nat_lt offset end) (ranges_from unit end (suc end) unit.base)
    (failing (record { rule = NoList; at = offset }))

-- the bytes are a list of these ranges, in a section of so many bytes, at an offset
abbrev pub SpellsList : UnitAddresses → ℕ → ℕ → List ℕ → List Range → Type 0
SpellsList unit end offset = (range_list unit end offset).Spells

-- why no list is at an offset of a section, by the first entry that is wrong
abbrev pub ListFails : UnitAddresses → List ℕ → ℕ → ListFault → Type 0
ListFails unit section offset = (range_list unit (length section) offset).Fails (drop offset section)

-- the ranges of the list at an offset and the bytes after it, or its first fault
abbrev pub list_at : UnitAddresses → List ℕ → ℕ → Result (List Range × List ℕ) ListFault
list_at unit section offset = (range_list unit (length section) offset).read (drop offset section)

-- the same, after earlier ranges, and the offset after the list
abbrev pub list_after : List Range → UnitAddresses → List ℕ → ℕ → Result (List Range × ℕ) ListFault
list_after earlier unit section offset =
    list_at unit section offset >>= λ x. Ok (earlier ++ x.0, length section - length x.1)
