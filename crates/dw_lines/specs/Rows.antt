-- Chapter: the rows of a line program one after another, up to its end or to the first rule that it violates.
use Rattle.std.specs.Prelude.{◌≡◌, ℕ, zero, suc, ◌+◌, ◌-◌, List, [], ◌∷◌, length, Option, Some, None, Result, Ok, Err}
use Rattle.dw_forms.specs.Formats.{as_other}
use Rattle.dw_lines.specs.Machine.{start, Turn, then_turn}
use Rattle.dw_lines.specs.Opcodes.{opcode}
use Rattle.dw_lines.specs.declared.rule.LineFault.{LineFault}
use Rattle.dw_lines.specs.declared.program.LineHeader.{LineHeader}
use Rattle.dw_lines.specs.declared.program.Program.{Program}
use Rattle.dw_lines.specs.declared.row.Row.{Row}
use Rattle.dw_lines.specs.declared.rule.LineRule.TheVariants.{NotEnded}

-- the rows that a program makes, and the first rule that it violates after them, if any
pub record Run : Type 0 where
  pub rows : List Row
  pub fault : Option LineFault

-- a run of no rows, up to the program's end
abbrev pub ended : Run
ended = record { rows = []; fault = None }

-- a run of no rows, up to a rule that is violated
abbrev pub failed : LineFault → Run
failed fault = record { rows = []; fault = Some fault }

-- a row, and the run after it
abbrev pub row_then : Row → Run → Run
row_then row run = record { rows = row ∷ run.rows; fault = run.fault }

-- what is violated at the end of the program, which is at this offset: the last sequence has rows, and no end
abbrev pub at_end : ℕ → Option ℕ → Run
at_end end None = ended
at_end end (Some last) = failed (record { rule = NotEnded; at = end })

-- the turn of the opcode at the front of the bytes, or the rule that it violates, at its offset. The program's end is
-- at this offset
abbrev pub turn_at : LineHeader → ℕ → Row → Option ℕ → List ℕ → Result Turn LineFault
turn_at h end registers last bytes =
    as_other (λ rule. record { rule = rule; at = end - length bytes })
    (then_turn (opcode h) h last registers bytes)

-- a row, if there is one, and the run after it
abbrev pub with_row : Option Row → Run → Run
with_row None run = run
with_row (Some row) run = row_then row run

-- the run after a turn
abbrev pub after_turn : (Row → Option ℕ → List ℕ → Run) → Result Turn LineFault → Run
after_turn run (Err fault) = failed fault
after_turn run (Ok t) = with_row t.row (run t.registers t.last t.rest)

-- the run of these opcodes, so many at most, from these registers and the address of the last row of the sequence
unfoldable pub run_of : LineHeader → ℕ → ℕ → Row → Option ℕ → List ℕ → Run
run_of h end count registers last [] = at_end end last
run_of h end zero registers last (b ∷ bytes) = ended
run_of h end (suc count) registers last (b ∷ bytes) =
    after_turn (run_of h end count) (turn_at h end registers last (b ∷ bytes))

-- the run of all these opcodes, each of which has a byte or more
abbrev pub run : LineHeader → ℕ → Row → Option ℕ → List ℕ → Run
run h end registers last bytes = run_of h end (length bytes) registers last bytes

-- the run of a program from its start
abbrev pub program_run : Program → Run
program_run p = run p.header (p.opcodes_at + length p.opcodes.now) (start p.header.parameters.default_is_stmt) None
    p.opcodes.now

-- what is returned is the next row of the first run, and the second run follows it. A run that fails is as it was
abbrev pub Yields : Result (Option Row) LineFault → Run → Run → Type 0
Yields (Ok (Some row)) old new = old ≡ row_then row new
Yields (Ok None) old new = (old ≡ ended) × (new ≡ ended)
Yields (Err fault) old new = (old ≡ failed fault) × (new ≡ old)
