-- Chapter: the fields of a header of a line program (DWARF 5, 6.2.4; DWARF 4, 6.2.4).
use Rattle.std.specs.Prelude.{ℕ, ◌-◌, Bool, ℤ, List, [], ◌∷◌, nat_lt, nat_le, ◌==◌, ◌&&◌, ◌||◌, take}
use Rattle.std.specs.Int.{cast_signed, w8}
use Rattle.std.specs.List.{starts_with}
use Rattle.dw_forms.specs.BaseFormats.{byte as any_byte, so_many, fixed_number, uleb_or, zero_ended}
use Rattle.dw_forms.specs.Formats.{Format, and_then, nothing, failing, choose, tested}
use Rattle.dw_lines.specs.declared.program.Parameters.{Parameters}
use Rattle.dw_lines.specs.declared.rule.LineRule.{LineRule}
use Rattle.dw_lines.specs.declared.rule.LineRule.TheVariants.{LineCut, LineNumber, Line64, LineVersion}
use Rattle.dw_lines.specs.declared.rule.LineRule.TheVariants.{LineAddressSize, LineParameter, OpcodeLength}

-- a field of so many bytes, the lowest first
abbrev pub field : ℕ → Format ℕ LineRule
field size = fixed_number LineCut size

-- a field of one byte
abbrev pub byte : Format ℕ LineRule
byte = any_byte LineCut

-- an unsigned LEB128 number
abbrev pub number : Format ℕ LineRule
number = uleb_or LineCut LineNumber

-- a path up to a zero byte
abbrev pub path : Format (List ℕ) LineRule
path = zero_ended LineCut

-- what unit_length is below. From here on it marks other formats
abbrev pub length_end : ℕ
length_end = 0xfffffff0

-- unit_length, and the bytes of the program that it counts
abbrev pub content : Format (List ℕ) LineRule
content = and_then (tested (λ len. nat_lt len length_end) Line64 (field 4)) (λ len. so_many LineCut len)

-- after a version from 5 on address_size, which is that of the unit, and segment_selector_size, which is 0
abbrev pub after_version : ℕ → ℕ → Format ℕ LineRule
after_version size v = choose (nat_lt v 5) (nothing v) (and_then byte (λ own. and_then byte (λ segment.
    choose (own == size && segment == 0) (nothing v) (failing LineAddressSize))))

-- the version: 2 to 5
abbrev pub version : ℕ → Format ℕ LineRule
version size = and_then (tested (λ v. nat_le 2 v && nat_le v 5) LineVersion (field 2)) (after_version size)

-- the fields that say what opcodes mean
pub record LineParameters : Type 0 where
  pub address_size : ℕ
  pub minimum_instruction_length : ℕ
  pub maximum_operations_per_instruction : ℕ
  pub default_is_stmt : Bool
  pub line_base : ℤ
  pub line_range : ℕ
  pub opcode_base : ℕ

-- the numbers in them
abbrev pub numbers_of : Parameters → LineParameters
numbers_of p = record {
  address_size = p.address_size;
  minimum_instruction_length = p.minimum_instruction_length;
  maximum_operations_per_instruction = p.maximum_operations_per_instruction;
  default_is_stmt = p.default_is_stmt;
  line_base = p.line_base;
  line_range = p.line_range;
  opcode_base = p.opcode_base;
}

-- maximum_operations_per_instruction, which versions before 4 don't have
abbrev pub maximum_operations : ℕ → Format ℕ LineRule
maximum_operations version = choose (nat_lt version 4) (nothing 1) byte

-- these fields, of which the second and the last two are not 0, and default_is_stmt is 0 or 1
abbrev pub parameters : ℕ → ℕ → Format LineParameters LineRule
parameters version size =
    and_then byte (λ min. and_then (maximum_operations version) (λ max. and_then byte (λ is_stmt.
    and_then byte (λ base. and_then byte (λ range. and_then byte (λ opcodes.
    choose (max == 0 || nat_lt 1 is_stmt || range == 0 || opcodes == 0) (failing LineParameter) (nothing (record {
      address_size = size;
      minimum_instruction_length = min;
      maximum_operations_per_instruction = max;
      default_is_stmt = is_stmt == 1;
      line_base = cast_signed w8 base;
      line_range = range;
      opcode_base = opcodes;
    }))))))))

-- the counts of operands of the opcodes 1 to 12 (DWARF 5, 6.2.5.2)
abbrev pub operand_counts : List ℕ
operand_counts = 0 ∷ 1 ∷ 1 ∷ 1 ∷ 1 ∷ 0 ∷ 0 ∷ 0 ∷ 1 ∷ 0 ∷ 0 ∷ 1 ∷ []

-- the counts of operands of the standard opcodes, as far as there are so many, are those of the standard
abbrev pub are_standard : List ℕ → Bool
are_standard lengths = starts_with (λ a b. a == b) operand_counts (take 12 lengths)

-- standard_opcode_lengths: a count of operands for each opcode below opcode_base
abbrev pub standard_opcode_lengths : ℕ → Format (List ℕ) LineRule
standard_opcode_lengths opcode_base = tested are_standard OpcodeLength (so_many LineCut (opcode_base - 1))
