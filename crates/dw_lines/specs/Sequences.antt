-- Chapter: what holds of the rows of a line program: their files, and their sequences (DWARF 5, 6.2.5.3).
use Rattle.std.specs.Prelude.{◌≡◌, ◌≤◌, ◌⊎◌, ℕ, true, List, [], ◌∷◌, Option, None, unwrap_or}
use Rattle.dw_lines.specs.Files.{has_file}
use Rattle.dw_lines.specs.Machine.{last_after}
use Rattle.dw_lines.specs.declared.program.Files.{Files}
use Rattle.dw_lines.specs.declared.row.Row.{Row}

-- a row's file is one of the program's, unless the row ends its sequence
abbrev pub HasFile : Files → Row → Type 0
HasFile files r = (r.end_sequence ≡ true) ⊎ (has_file files r.file ≡ true)

-- no row has a smaller address than the row before it in its sequence. The first sequence has a last row with this
-- address already, if there is one
abbrev pub Ascend : Option ℕ → List Row → Type 0
Ascend last [] = Unit {0}
Ascend last (r ∷ rows) = (unwrap_or last 0 ≤ r.address) × Ascend (last_after r) rows

-- each sequence has an end
abbrev pub AllEnd : Option ℕ → List Row → Type 0
AllEnd last [] = last ≡ None
AllEnd last (r ∷ rows) = AllEnd (last_after r) rows
