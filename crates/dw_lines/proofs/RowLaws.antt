-- What holds of each row of a run, and of the sequences of rows.
use Rattle.std.proofs.Common.{◌≡◌, ℕ, zero, suc, ◌+◌, ◌≤◌, List, [], ◌∷◌, length, All, Option, Some, None, Result, Ok, Err}
use Rattle.std.proofs.Common.{refl, subst, arith}
use Rattle.std.specs.Prelude.{IfOk, unwrap_or}
use Rattle.std.proofs.lemmas.List.Elements.{All-nil, All-cons}
use Rattle.std.proofs.lemmas.Result.{MatchResult-weaker}
use Rattle.dw_forms.specs.Formats.{as_other_says}
use Rattle.dw_forms.specs.StepLaws.{bind_says}
use Rattle.dw_lines.specs.Machine.{start, Turn, last_after}
use Rattle.dw_lines.specs.Opcodes.{opcode}
use Rattle.dw_lines.specs.Rows.{Run, with_row, at_end, turn_at, after_turn, run_of, program_run}
use Rattle.dw_lines.specs.Sequences.{HasFile, Ascend, AllEnd}
use Rattle.dw_lines.specs.declared.rule.LineFault.{LineFault}
use Rattle.dw_lines.specs.declared.program.Files.{Files}
use Rattle.dw_lines.specs.declared.program.LineHeader.{LineHeader}
use Rattle.dw_lines.specs.declared.program.Program.{Program}
use Rattle.dw_lines.specs.declared.row.Row.{Row}
use Rattle.dw_lines.proofs.RunSteps.{all_ok, turn_says, turn_shorter}

-- what holds of the rows of a run, and if nothing is violated of their ends
pub record GoodRun (files : Files) (last : Option ℕ) (run : Run) : Type 0 where
  pub have_files : All (HasFile files) run.rows
  pub ascend : Ascend last run.rows
  pub all_end : run.fault ≡ None → AllEnd last run.rows

-- a row that a turn appends, and what it leaves as the last address
abbrev GoodTurn : Files → Option ℕ → Option Row → Option ℕ → Type 0
GoodTurn files last None next = next ≡ last
GoodTurn files last (Some r) next = HasFile files r × (unwrap_or last 0 ≤ r.address) × (next ≡ last_after r)

with_good : (files : Files) (last next : Option ℕ) (o : Option Row) (run : Run) → GoodTurn files last o next
    → GoodRun files next run → GoodRun files last (with_row o run)
with_good files last next None run same good = subst (λ (l : Option ℕ). GoodRun files l run) same good
with_good files last next (Some r) run t good =
    let rest = subst (λ (l : Option ℕ). GoodRun files l run) t.2 good in
    record {
      have_files = All-cons (HasFile files) r run.rows t.0 rest.have_files;
      ascend = (t.1, rest.ascend);
      all_end = rest.all_end;
    }

faulty : (files : Files) (last : Option ℕ) (fault : LineFault)
    → GoodRun files last (record { rows = []; fault = Some fault })
faulty files last fault =
    record { have_files = All-nil (HasFile files); ascend = tt; all_end = λ e. absurd (some_none e) }
  where
    some_none : ◌≡◌ {A = Option LineFault} (Some fault) None → ⊥
    some_none e = cc

after_good : (files : Files) (last : Option ℕ) (go : Row → Option ℕ → List ℕ → Run) (t : Result Turn LineFault)
    → IfOk t (λ t. GoodTurn files last t.row t.last)
    → IfOk t (λ t. (r : Row) (l : Option ℕ) → GoodRun files l (go r l t.rest))
    → GoodRun files last (after_turn go t)
after_good files last go (Err fault) h k = faulty files last fault
after_good files last go (Ok t) h k =
    with_good files last t.last t.row (go t.registers t.last t.rest) h (k t.registers t.last)

module _ (h : LineHeader) (end : ℕ) where
  turn_at_good : (registers : Row) (last : Option ℕ) (bytes : List ℕ)
      → IfOk (turn_at h end registers last bytes) (λ t. GoodTurn h.files last t.row t.last)
  turn_at_good registers last bytes =
      let P : Turn → Type 0 = λ t. GoodTurn h.files last t.row t.last in
      MatchResult-weaker (turn_at h end registers last bytes)
      (as_other_says _ P (λ e. Unit {0}) _
      (bind_says ((opcode h).read bytes) _ (λ x. Unit {0}) (λ e. Unit {0}) P (λ e. Unit {0})
      (all_ok ((opcode h).read bytes))
      (λ x ok. turn_says h last registers x.0 x.1 P (λ r. refl) (λ r file high. (file, high, refl))) (λ e h. tt)))
      (λ x h. h) (λ e h. tt)

  end_good : (last : Option ℕ) → GoodRun h.files last (at_end end last)
  end_good None = record { have_files = All-nil (HasFile h.files); ascend = tt; all_end = λ e. refl }
  end_good (Some l) = faulty h.files (Some l) _

  pub run_good : (n : ℕ) (registers : Row) (last : Option ℕ) (bytes : List ℕ) → length bytes ≤ n
      → GoodRun h.files last (run_of h end n registers last bytes)
  unfolding run_of
  run_good n registers last [] few = end_good last
  run_good zero registers last (b ∷ bytes) few = absurd (omega arith)
  run_good (suc n) registers last (b ∷ bytes) few =
      after_good h.files last (run_of h end n) (turn_at h end registers last (b ∷ bytes))
      (turn_at_good registers last (b ∷ bytes))
      (MatchResult-weaker (turn_at h end registers last (b ∷ bytes))
      (turn_shorter h end registers last (b ∷ bytes))
      (λ t short r l. run_good n r l t.rest (omega arith)) (λ e h. tt))

pub program_good : (p : Program) → GoodRun p.header.files None (program_run p)
program_good p =
    run_good p.header (p.opcodes_at + length p.opcodes.now) (length p.opcodes.now)
    (start p.header.parameters.default_is_stmt) None
    p.opcodes.now (omega arith)
