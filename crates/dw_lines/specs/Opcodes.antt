-- Chapter: the opcodes of a line program (DWARF 5, 6.2.5 and 7.22): which bytes spell which opcode.
use Rattle.std.specs.Prelude.{ℕ, zero, suc, List, [], ◌∷◌, length, ◌==◌, nat_le, slice_get, unwrap_or, ◌-◌, ℤ}
use Rattle.dw_forms.specs.BaseFormats.{byte, so_many, fixed_number, sleb_or, uleb_or}
use Rattle.dw_forms.specs.Formats.{Format, and_then, nothing, failing, mapped, inside, choose, tested}
use Rattle.dw_lines.specs.declared.program.LineHeader.{LineHeader}
use Rattle.dw_lines.specs.declared.rule.LineRule.{LineRule}
use Rattle.dw_lines.specs.declared.rule.LineRule.TheVariants.{OpcodeCut, OpcodeNumber, ExtendedLength}

-- an opcode with its operands: a special one by its code less the opcode base (6.2.5.1), the standard ones (6.2.5.2),
-- the extended ones (6.2.5.3), and one that this version of the standard does not define, which does nothing
pub data Opcode : Type 0 where
  Special : ℕ → Opcode
  Copy : Opcode
  AdvancePc : ℕ → Opcode
  AdvanceLine : ℤ → Opcode
  SetFile : ℕ → Opcode
  SetColumn : ℕ → Opcode
  NegateStmt : Opcode
  SetBasicBlock : Opcode
  ConstAddPc : Opcode
  FixedAdvancePc : ℕ → Opcode
  SetPrologueEnd : Opcode
  SetEpilogueBegin : Opcode
  SetIsa : ℕ → Opcode
  EndSequence : Opcode
  SetAddress : ℕ → Opcode
  SetDiscriminator : ℕ → Opcode
  Other : Opcode

-- an unsigned operand
abbrev pub operand : Format ℕ LineRule
operand = uleb_or OpcodeCut OpcodeNumber

-- a signed operand
abbrev pub signed_operand : Format ℤ LineRule
signed_operand = sleb_or OpcodeCut OpcodeNumber

-- an opcode that does nothing, with so many operands
unfoldable pub operands : ℕ → Format Opcode LineRule
operands zero = nothing Other
operands (suc count) = and_then operand (λ n. operands count)

-- an opcode whose operands are all of these bytes
abbrev pub whole : List ℕ → Format Opcode LineRule → Format Opcode LineRule
whole bytes format = mapped (λ x. x.0) (tested (λ x. length x.1 == 0) ExtendedLength (inside bytes format))

-- the opcode of these bytes (6.2.5.3): DW_LNE_end_sequence (1), DW_LNE_set_address (2), DW_LNE_set_discriminator (4);
-- the operands of others are not read
abbrev pub extended_of : ℕ → List ℕ → Format Opcode LineRule
extended_of address_size [] = failing ExtendedLength
extended_of address_size (code ∷ bytes) =
    choose (code == 1) (whole bytes (nothing EndSequence)) (
    choose (code == 2) (whole bytes (mapped SetAddress (fixed_number ExtendedLength address_size))) (
    choose (code == 4) (whole bytes (mapped SetDiscriminator (uleb_or ExtendedLength OpcodeNumber))) (nothing Other)))

-- a length, and so many bytes
abbrev pub counted_bytes : Format (List ℕ) LineRule
counted_bytes = and_then operand (so_many OpcodeCut)

-- an extended opcode after its zero byte
abbrev pub extended_opcode : ℕ → Format Opcode LineRule
extended_opcode address_size = and_then counted_bytes (extended_of address_size)

-- a standard opcode after its code (6.2.5.2). One that the standard does not define has so many operands, which the
-- header says
abbrev pub standard_opcode : ℕ → ℕ → Format Opcode LineRule
standard_opcode count code =
    choose (code == 1) (nothing Copy) (
    choose (code == 2) (mapped AdvancePc operand) (
    choose (code == 3) (mapped AdvanceLine signed_operand) (
    choose (code == 4) (mapped SetFile operand) (
    choose (code == 5) (mapped SetColumn operand) (
    choose (code == 6) (nothing NegateStmt) (
    choose (code == 7) (nothing SetBasicBlock) (
    choose (code == 8) (nothing ConstAddPc) (
    choose (code == 9) (mapped FixedAdvancePc (fixed_number OpcodeCut 2)) (
    choose (code == 10) (nothing SetPrologueEnd) (
    choose (code == 11) (nothing SetEpilogueBegin) (
    choose (code == 12) (mapped SetIsa operand) (operands count))))))))))))

-- how many operands a header gives to a standard opcode
abbrev pub count_in : List ℕ → ℕ → ℕ
count_in lengths code = unwrap_or (slice_get lengths (code - 1)) 0

-- an opcode after its first byte: a special one from the opcode base on, an extended one after 0, else a standard one
abbrev pub opcode_after : LineHeader → ℕ → Format Opcode LineRule
opcode_after h code =
    choose (nat_le h.parameters.opcode_base code) (nothing (Special (code - h.parameters.opcode_base))) (
    choose (code == 0) (extended_opcode h.parameters.address_size)
    (standard_opcode (count_in h.standard_opcode_lengths.now code) code))

-- an opcode of a program with this header (6.2.5)
abbrev pub opcode : LineHeader → Format Opcode LineRule
opcode h = and_then (byte OpcodeCut) (opcode_after h)
