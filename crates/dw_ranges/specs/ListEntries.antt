-- Chapter: the entries of a range list (DWARF 5, 2.17.3, and 7.25 with Table 7.30; DWARF 4, 2.17.3): which bytes spell
-- which entry.
use Rattle.std.specs.Prelude.{ℕ, ◌==◌, ◌&&◌, if◌then◌else◌}
use Rattle.dw_forms.specs.BaseFormats.{byte, fixed_number, uleb_or}
use Rattle.dw_forms.specs.Formats.{Format, and_then, nothing, failing, mapped, choose}
use Rattle.dw_ranges.specs.Addresses.{greatest_address}
use Rattle.dw_ranges.specs.declared.list_entry.ListEntry.{ListEntry}
use Rattle.dw_ranges.specs.declared.list_entry.ListEntry.TheVariants.{EndOfList, BaseAddressx, StartxEndx, StartxLength}
use Rattle.dw_ranges.specs.declared.list_entry.ListEntry.TheVariants.{OffsetPair, BaseAddress, StartEnd, StartLength}
use Rattle.dw_ranges.specs.declared.rule.RangeRule.{RangeRule}
use Rattle.dw_ranges.specs.declared.rule.RangeRule.TheVariants.{BadList}

-- an unsigned LEB128 number
abbrev pub number : Format ℕ RangeRule
number = uleb_or BadList BadList

-- an address of so many bytes
abbrev pub address : ℕ → Format ℕ RangeRule
address size = fixed_number BadList size

-- a value, and after it another one of the same format or of a second one
abbrev pub pair_of : (ℕ → ℕ → ListEntry) → Format ℕ RangeRule → Format ℕ RangeRule → Format ListEntry RangeRule
pair_of entry first second = and_then first (λ a. mapped (entry a) second)

-- what follows the code of an entry in version 5, where an address has so many bytes
unfoldable pub entry_after : ℕ → ℕ → Format ListEntry RangeRule
entry_after size code =
    choose (code == 0) (nothing EndOfList) (
    choose (code == 1) (mapped BaseAddressx number) (
    choose (code == 2) (pair_of StartxEndx number number) (
    choose (code == 3) (pair_of StartxLength number number) (
    choose (code == 4) (pair_of OffsetPair number number) (
    choose (code == 5) (mapped BaseAddress (address size)) (
    choose (code == 6) (pair_of StartEnd (address size) (address size)) (
    choose (code == 7) (pair_of StartLength (address size) number) (failing BadList))))))))

-- an entry of a list in version 5
unfoldable pub entry5 : ℕ → Format ListEntry RangeRule
entry5 size = and_then (byte BadList) (entry_after size)

-- what two addresses are in version 4: the end of the list, a base address after the greatest address, or two offsets
abbrev pub entry_between : ℕ → ℕ → ℕ → ListEntry
entry_between size low high =
    if low == 0 && high == 0 then EndOfList else
    if low == greatest_address size then BaseAddress high else OffsetPair low high

-- an entry of a list in version 4
unfoldable pub entry4 : ℕ → Format ListEntry RangeRule
entry4 size = pair_of (entry_between size) (address size) (address size)

-- an entry of a list
abbrev pub entry : ℕ → ℕ → Format ListEntry RangeRule
entry version size = choose (version == 4) (entry4 size) (entry5 size)
