-- Chapter: the contributions of units to .debug_addr and .debug_rnglists (DWARF 5, 7.27 and 7.28). Both have the same
-- header.
use Rattle.std.specs.Prelude.{ℕ, ◌-◌, ◌*◌, ◌/◌, List, length, drop, Result, Ok, Err, nat_lt, nat_le, ◌==◌, ◌&&◌}
use Rattle.std.specs.Prelude.{if◌then◌else◌}
use Rattle.dw_forms.specs.BaseFormats.{so_many, fixed_number}
use Rattle.dw_forms.specs.Formats.{Format, and_then, nothing, failing, mapped, inside, choose}
use Rattle.dw_forms.specs.Steps.{◌>>=◌}
use Rattle.dw_ranges.specs.declared.rule.RangeRule.{RangeRule}
use Rattle.dw_ranges.specs.declared.rule.RangeRule.TheVariants.{NoList}

-- a field of so many bytes, the lowest first
abbrev pub field : ℕ → Format ℕ RangeRule
field size = fixed_number NoList size

-- version, address_size, which is that of the unit, and segment_selector_size, which is 0
unfoldable pub header_fields : ℕ → Format ℕ RangeRule
header_fields size = and_then (field 2) (λ version. and_then (field 1) (λ own. and_then (field 1) (λ segment.
    choose (version == 5 && own == size && segment == 0) (nothing size) (failing NoList))))

-- unit_length, and as many bytes, which are the fields of the header and the content after them
unfoldable pub contribution : ℕ → Format (List ℕ) RangeRule
contribution size = and_then (field 4) (λ len. choose (nat_lt len 0xfffffff0)
    (and_then (so_many NoList len) (λ whole. mapped (λ x. x.1) (inside whole (header_fields size)))) (failing NoList))

-- the content of the contribution that starts so many bytes before an offset of a section
abbrev pub contribution_at : ℕ → List ℕ → ℕ → ℕ → Result (List ℕ) RangeRule
contribution_at size section base before =
    if nat_le before base && nat_le base (length section) then
    ((contribution size).read (drop (base - before) section) >>= λ x. Ok x.0) else Err NoList

-- where the list with an index is: the bytes from which its offset counts, and that offset (7.28)
unfoldable pub list_in : ℕ → ℕ → List ℕ → Result (List ℕ × ℕ) RangeRule
list_in index count bytes =
    if nat_lt index count && nat_le count (length bytes / 4) then
    ((field 4).read (drop (4 * index) bytes) >>= λ x. Ok (bytes, x.0)) else Err NoList

-- DW_AT_rnglists_base is the offset of the first offset, after a header of 12 bytes, the last 4 of them
-- offset_entry_count (7.28)
unfoldable pub indexed_list : ℕ → List ℕ → ℕ → ℕ → Result (List ℕ × ℕ) RangeRule
indexed_list size section base index =
    contribution_at size section base 12 >>= λ content. (field 4).read content >>= λ x. list_in index x.0 x.1
