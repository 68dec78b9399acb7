-- Chapter: whether a plain member ends inside its container (DWARF 5, 5.7.6).
use Rattle.std.specs.Prelude.{ℕ, ◌+◌, ◌*◌, ℤ, pos, negsuc, ◌*ℤ◌, Bool, true, false, ◌&&◌, List, Option, None}
use Rattle.std.specs.Prelude.{Some, is_some}
use Rattle.std.specs.Prelude.{if◌then◌else◌, nat_lt}
use Rattle.dw_entries.specs.Entries.{Entry, DebugUnit}
use Rattle.dw_links.specs.declared.constant.Constant.{Constant}
use Rattle.dw_links.specs.Constants.{constant_at, is_present, number_of_constant, natural_of}
use Rattle.dw_types.specs.Shapes.{is_plain}
use Rattle.dw_types.specs.SizeTables.{Size}
use Rattle.dw_types.specs.Sizes.{size_to}
use Rattle.dw_types.specs.Entries.{entry_in, type_target}
use Rattle.dw_forms.specs.Codes.{DW_AT_bit_size, DW_AT_data_bit_offset, DW_AT_data_member_location}

-- the attribute is a number
abbrev pub is_number : Constant → Bool
is_number constant = is_some (number_of_constant constant)

-- so many bits from a bit on end past n bytes, or one of the two numbers is negative
abbrev pub bits_end_past : ℕ → Option ℕ → Option ℕ → Bool
bits_end_past n None start = true
bits_end_past n (Some size) None = true
bits_end_past n (Some size) (Some start) = nat_lt (8 * n) (size + start)

-- a number of bytes, in bits
abbrev pub in_bits : Option ℤ → Option ℤ
in_bits None = None
in_bits (Some bytes) = Some (bytes *ℤ pos 8)

-- the bit at which a member starts, by its location in bytes, else its offset in bits, else 0; none if that is not a
-- number
abbrev pub start_of : Entry → Option ℤ
start_of member =
    if is_present (constant_at member DW_AT_data_member_location)
    then in_bits (number_of_constant (constant_at member DW_AT_data_member_location))
    else if is_present (constant_at member DW_AT_data_bit_offset)
    then number_of_constant (constant_at member DW_AT_data_bit_offset)
    else Some (pos 0)

-- so many bytes from a bit on end past n bytes, or that bit is negative
abbrev pub end_past : ℕ → ℤ → ℕ → Bool
end_past n (pos start) size = nat_lt (8 * n) (start + 8 * size)
end_past n (negsuc start) size = true

-- the same, if start and size are known
abbrev pub bytes_end_past : ℕ → Option ℤ → Size → Bool
bytes_end_past n None size = false
bytes_end_past n (Some start) None = false
bytes_end_past n (Some start) (Some size) = end_past n start size

-- a member, whose type has a size, ends past the n bytes of its container; with a bit size only its bits count
abbrev pub ends_past : ℕ → Entry → Size → Bool
ends_past n member size =
    if is_number (constant_at member DW_AT_bit_size) && is_number (constant_at member DW_AT_data_bit_offset)
    then
    bits_end_past n (natural_of (constant_at member DW_AT_bit_size))
    (natural_of (constant_at member DW_AT_data_bit_offset))
    else if is_present (constant_at member DW_AT_bit_size) then false
    else bytes_end_past n (start_of member) size

-- in a container without a size no member is outside
abbrev pub ends_past_container : Size → Entry → Size → Bool
ends_past_container None member size = false
ends_past_container (Some n) member size = ends_past n member size

-- a plain member ends past its container, whose size is its own byte size, by a table of sizes
abbrev pub is_outside : List DebugUnit → (ℕ → Size) → ℕ → Bool
is_outside us table node =
    is_plain us node
    && ends_past_container (size_to table (entry_in us node).parent) (entry_in us node)
    (size_to table (type_target us node))
