-- State: the registers, and the rows that are left, after an opcode.
use Rattle.std.specs.Prelude.{◌≡◌, Bool, true, false, List, ℕ, Some, None, Result, Ok, Err}
use Rattle.dw_forms.specs.Formats.{Format}
use Rattle.dw_lines.specs.Machine.{Turn, cleared, last_after, then_turn}
use Rattle.dw_lines.specs.Opcodes.{Opcode}
use Rattle.dw_lines.specs.declared.rows.Rows.{Rows}
use Rattle.dw_lines.specs.declared.row.Row.{Row}
use Rattle.dw_lines.specs.declared.rule.LineRule.{LineRule}

-- a function made these registers, or named the rule that is violated and left them as they were
abbrev pub Changes : {A : Type 0} → Result A LineRule → Result Row LineRule → Row → Row → Type 0
Changes (Ok done) registers old new = registers ≡ Ok new
Changes (Err rule) registers old new = (registers ≡ Err rule) × (new ≡ old)

-- the turn after which a machine goes on, where it says whether its registers are a row that was just appended. They
-- are cleared when the row is taken
abbrev pub turn_to : Bool → Rows → Turn
turn_to true m = record {
  row = Some m.registers;
  registers = cleared m.header.now.parameters m.registers;
  last = last_after m.registers;
  rest = m.rest.now;
}
turn_to false m = record { row = None; registers = m.registers; last = m.last; rest = m.rest.now }

-- a function returned whether this turn appends a row, and left the machine that goes on after it. A rule that is
-- violated leaves the machine as it was
abbrev pub Turns : Result Bool LineRule → Result Turn LineRule → Rows → Rows → Type 0
Turns (Ok appends) turn old new =
    (turn ≡ Ok (turn_to appends new)) × (new.header ≡ old.header) × (new.end ≡ old.end)
Turns (Err rule) turn old new = (turn ≡ Err rule) × (new ≡ old)

-- the same of the turn of an opcode that a format reads at the front of these bytes
abbrev pub Runs : Format Opcode LineRule → List ℕ → Result Bool LineRule → Rows → Rows → Type 0
Runs format bytes result old new =
    Turns result (then_turn format old.header.now old.last old.registers bytes) old new
