-- Chapter: the machine that a line program runs on: its registers, what each opcode does to them, and the rows of the
-- line number table (DWARF 5, 6.2.2 and 6.2.5).
use Rattle.std.specs.Prelude.{ℕ, List, ◌+◌, ◌-◌, ◌*◌, ◌/◌, ◌%◌, ◌^◌, Option, Some, None, Result, Ok, Err, unwrap_or}
use Rattle.std.specs.Prelude.{Bool, true, false, nat_le, nat_lt, ℤ, pos, negsuc, ◌+ℤ◌, if◌then◌else◌, not, ◌||◌}
use Rattle.dw_forms.specs.Formats.{Format}
use Rattle.dw_forms.specs.Steps.{◌>>=◌, on_option}
use Rattle.dw_lines.specs.Files.{has_file}
use Rattle.dw_lines.specs.declared.program.LineHeader.{LineHeader}
use Rattle.dw_lines.specs.declared.program.Parameters.{Parameters}
use Rattle.dw_lines.specs.declared.row.Row.{Row}
use Rattle.dw_lines.specs.declared.rule.LineRule.{LineRule}
use Rattle.dw_lines.specs.declared.rule.LineRule.TheVariants.{RowAddress, RowLine, RowDescends, RowFile}
use Rattle.dw_lines.specs.Opcodes.{Opcode}
use Rattle.dw_lines.specs.Opcodes as op

-- the registers at the start of each sequence (table 6.4)
abbrev pub start : Bool → Row
start default_is_stmt = record {
  address = 0;
  op_index = 0;
  file = 1;
  line = 1;
  column = 0;
  is_stmt = default_is_stmt;
  basic_block = false;
  end_sequence = false;
  prologue_end = false;
  epilogue_begin = false;
  isa = 0;
  discriminator = 0;
}

-- whether an address is one that linkers write for code that they left out: the greatest, or one less
abbrev pub is_tombstone : ℕ → Bool
is_tombstone address = nat_le (2 ^ 64 - 2) address

-- the address is so many bytes greater, and op_index is this. An address has 64 bits; the registers stay as they are
-- where a tombstone would have more (this project's choice)
abbrev pub moved : ℕ → ℕ → Row → Result Row LineRule
moved bytes op_index r =
    if nat_lt (r.address + bytes) (2 ^ 64) then Ok (record r { address = r.address + bytes; op_index = op_index })
    else if is_tombstone r.address then Ok r else Err RowAddress

-- an operation advance of n (6.2.5.1)
abbrev pub advanced : Parameters → ℕ → Row → Result Row LineRule
advanced p n r =
    moved (p.minimum_instruction_length * ((r.op_index + n) / p.maximum_operations_per_instruction))
    ((r.op_index + n) % p.maximum_operations_per_instruction) r

-- a number of 32 bits that is not below 0
abbrev pub bits_32 : ℤ → Option ℕ
bits_32 (pos n) = if nat_lt n (2 ^ 32) then Some n else None
bits_32 (negsuc n) = None

-- the line is so much greater
abbrev pub with_line : ℤ → Row → Result Row LineRule
with_line lines r = on_option (bits_32 (pos r.line +ℤ lines)) (Err RowLine) (λ line. Ok (record r { line = line }))

-- the operation advance of a special opcode (6.2.5.1)
abbrev pub operation_advance : Parameters → ℕ → ℕ
operation_advance p adjusted_opcode = adjusted_opcode / p.line_range

-- the line increment of a special opcode (6.2.5.1)
abbrev pub line_increment : Parameters → ℕ → ℤ
line_increment p adjusted_opcode = p.line_base +ℤ pos (adjusted_opcode % p.line_range)

-- the registers after an opcode, before a row is appended (6.2.5.1 to 6.2.5.3)
abbrev pub after : Parameters → Opcode → Row → Result Row LineRule
after p (op.Special adjusted) r = advanced p (operation_advance p adjusted) r >>= with_line (line_increment p adjusted)
after p op.Copy r = Ok r
after p (op.AdvancePc n) r = advanced p n r
after p (op.AdvanceLine lines) r = with_line lines r
after p (op.SetFile file) r = Ok (record r { file = file })
after p (op.SetColumn column) r = if nat_lt column (2 ^ 32) then Ok (record r { column = column }) else Err RowLine
after p op.NegateStmt r = Ok (record r { is_stmt = not r.is_stmt })
after p op.SetBasicBlock r = Ok (record r { basic_block = true })
after p op.ConstAddPc r = advanced p (operation_advance p (255 - p.opcode_base)) r
after p (op.FixedAdvancePc bytes) r = moved bytes 0 r
after p op.SetPrologueEnd r = Ok (record r { prologue_end = true })
after p op.SetEpilogueBegin r = Ok (record r { epilogue_begin = true })
after p (op.SetIsa isa) r = Ok (record r { isa = isa })
after p op.EndSequence r = Ok (record r { end_sequence = true })
after p (op.SetAddress address) r = Ok (record r { address = address; op_index = 0 })
after p (op.SetDiscriminator discriminator) r = Ok (record r { discriminator = discriminator })
after p op.Other r = Ok r

-- whether an opcode appends a row, which has the registers after it
abbrev pub appends : Opcode → Bool
appends (op.Special adjusted) = true
appends op.Copy = true
appends op.EndSequence = true
appends opcode = false

-- the registers after a row is appended
abbrev pub cleared : Parameters → Row → Row
cleared p r =
    if r.end_sequence then start p.default_is_stmt
    else record r { discriminator = 0; basic_block = false; prologue_end = false; epilogue_begin = false }

-- the address of the last row of the sequence after a row is appended; none where the sequence has no row yet
abbrev pub last_after : Row → Option ℕ
last_after r = if r.end_sequence then None else Some r.address

-- what an opcode makes of the machine: the row that it appends, if any, the registers and the address of the last row
-- of the sequence after it, and the bytes after it
pub record Turn : Type 0 where
  pub row : Option Row
  pub registers : Row
  pub last : Option ℕ
  pub rest : List ℕ

-- the turn of an opcode that appends this row, unless that violates a rule: it has no smaller address than the last row
-- of its sequence, and unless it ends the sequence (then its file means nothing) its file is one of the program's
abbrev pub row_turn : LineHeader → Option ℕ → Row → List ℕ → Result Turn LineRule
row_turn h last r rest =
    if nat_lt r.address (unwrap_or last 0) then Err RowDescends else
    if r.end_sequence || has_file h.files r.file
    then Ok (record { row = Some r; registers = cleared h.parameters r; last = last_after r; rest = rest })
    else Err RowFile

-- the turn of an opcode, after which these bytes follow
abbrev pub turn : LineHeader → Option ℕ → Row → Opcode → List ℕ → Result Turn LineRule
turn h last registers opcode rest = after h.parameters opcode registers >>= λ r.
    if appends opcode then row_turn h last r rest
    else Ok (record { row = None; registers = r; last = last; rest = rest })

-- the turn of the opcode that a format reads at the front of the bytes
abbrev pub then_turn : Format Opcode LineRule → LineHeader → Option ℕ → Row → List ℕ → Result Turn LineRule
then_turn format h last registers bytes = format.read bytes >>= λ x. turn h last registers x.0 x.1
