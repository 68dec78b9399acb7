-- The run of a program, one opcode after another.
use Rattle.std.proofs.Common.{◌≡◌, ℕ, zero, suc, ◌-◌, ◌<◌, ◌≤◌, ◌⊎◌, List, [], ◌∷◌, length, Option, Some, None}
use Rattle.std.proofs.Common.{Result, Ok, Err, refl, ap, ◌∙◌, arith, Bool, true, false, inl, inr}
use Rattle.std.specs.Prelude.{IfOk, if◌then◌else◌, ◌||◌, unwrap_or, nat_lt}
use Rattle.std.proofs.lemmas.Bool.{ltb-false}
use Rattle.std.proofs.lemmas.List.{length-append}
use Rattle.std.proofs.lemmas.Result.{IfOk-weaker, IfOk-at_ok, MatchResult-weaker}
use Rattle.dw_forms.specs.Formats.{then_some, as_other_says}
use Rattle.dw_forms.specs.StepLaws.{bind_says, cond_says}
use Rattle.dw_forms.specs.Steps.{◌>>=◌}
use Rattle.dw_lines.specs.Files.{has_file}
use Rattle.dw_lines.specs.Machine.{Turn, after, appends, cleared, last_after, row_turn, turn, then_turn}
use Rattle.dw_lines.specs.Opcodes.{Opcode, opcode, opcode_after}
use Rattle.dw_lines.specs.Rows.{Run, failed, with_row, at_end, turn_at, after_turn, run_of, run}
use Rattle.dw_lines.specs.Sequences.{HasFile}
use Rattle.dw_lines.specs.declared.rule.LineFault.{LineFault}
use Rattle.dw_lines.specs.declared.program.LineHeader.{LineHeader}
use Rattle.dw_lines.specs.declared.row.Row.{Row}
use Rattle.dw_lines.specs.declared.rule.LineRule.{LineRule}

byte_some : (text : List ℕ) (b : ℕ) → text ≡ b ∷ [] → 0 < length text
byte_some text b s = omega (arith, ap length s)

pub all_ok : {A E : Type 0} (r : Result A E) → IfOk r (λ x. Unit {0})
all_ok (Ok x) = tt
all_ok (Err e) = tt

either_true : (a b : Bool) → (a || b) ≡ true → (a ≡ true) ⊎ (b ≡ true)
either_true true b h = inl refl
either_true false b h = inr h

-- what holds of a turn, if it does without a row and with each that violates no rule
pub turn_says : (h : LineHeader) (last : Option ℕ) (registers : Row) (o : Opcode) (rest : List ℕ)
    (P : Turn → Type 0) → ((r : Row) → P (record { row = None; registers = r; last = last; rest = rest }))
    → ((r : Row) → HasFile h.files r → unwrap_or last 0 ≤ r.address
    → P (record { row = Some r; registers = cleared h.parameters r; last = last_after r; rest = rest }))
    → IfOk (turn h last registers o rest) P
turn_says h last registers o rest P none some = go (after h.parameters o registers) (appends o)
  where
    go : (a : Result Row LineRule) (b : Bool)
        → IfOk (a >>= λ r. if b then row_turn h last r rest
        else Ok (record { row = None; registers = r; last = last; rest = rest })) P
    go (Err rule) b = tt
    go (Ok r) false = none r
    go (Ok r) true =
        cond_says (nat_lt r.address (unwrap_or last 0)) _ _ P _ (λ low. tt) (λ high.
        cond_says (r.end_sequence || has_file h.files r.file) _ _ P _
        (λ file. some r (either_true r.end_sequence (has_file h.files r.file) file) (ltb-false _ _ high)) (λ none. tt))

same_after : (go to : Row → Option ℕ → List ℕ → Run) (t : Result Turn LineFault)
    → IfOk t (λ t. (r : Row) (l : Option ℕ) → go r l t.rest ≡ to r l t.rest) → after_turn go t ≡ after_turn to t
same_after go to (Err fault) h = refl
same_after go to (Ok t) h = ap (with_row t.row) (h t.registers t.last)

module _ (h : LineHeader) (end : ℕ) where
  -- an opcode has a byte or more
  read_shorter : (bytes : List ℕ) → IfOk ((opcode h).read bytes) (λ x. length x.1 < length bytes)
  read_shorter bytes =
      MatchResult-weaker ((opcode h).read bytes) ((opcode h).is_reader.says bytes)
      (λ x t.
      let some = then_some byte_some t.text x.0 t.spelled in
      omega (arith, some, ap length t.parts, length-append t.text x.1))
      (λ e h. tt)

  pub turn_shorter : (registers : Row) (last : Option ℕ) (bytes : List ℕ)
      → IfOk (turn_at h end registers last bytes) (λ t. length t.rest < length bytes)
  turn_shorter registers last bytes =
      let P : Turn → Type 0 = λ t. length t.rest < length bytes in
      MatchResult-weaker (turn_at h end registers last bytes)
      (as_other_says _ P (λ e. Unit {0}) _
      (bind_says ((opcode h).read bytes) _ (λ x. length x.1 < length bytes) (λ e. Unit {0}) P (λ e. Unit {0})
      (read_shorter bytes)
      (λ x short. turn_says h last registers x.0 x.1 P (λ r. short) (λ r file high. short))
      (λ e h. tt)))
      (λ x h. h) (λ e h. tt)

  -- it is enough to run as many opcodes as there are bytes
  same_run : (n m : ℕ) (bytes : List ℕ) → length bytes ≤ n → length bytes ≤ m → (registers : Row) (last : Option ℕ)
      → run_of h end n registers last bytes ≡ run_of h end m registers last bytes
  unfolding run_of
  same_run n m [] few more registers last = refl
  same_run zero m (b ∷ bytes) few more registers last = absurd (omega arith)
  same_run (suc n) zero (b ∷ bytes) few more registers last = absurd (omega arith)
  same_run (suc n) (suc m) (b ∷ bytes) few more registers last =
      same_after (run_of h end n) (run_of h end m)
      (turn_at h end registers last (b ∷ bytes))
      (IfOk-weaker (turn_at h end registers last (b ∷ bytes)) (λ t. length t.rest < length (b ∷ bytes))
      (λ t. (r : Row) (l : Option ℕ) → run_of h end n r l t.rest ≡ run_of h end m r l t.rest)
      (λ t short. same_run n m t.rest (omega arith) (omega arith))
      (turn_shorter registers last (b ∷ bytes)))

  -- the turn of the first opcode, and the run after it
  run_next : (registers : Row) (last : Option ℕ) (code : ℕ) (bytes : List ℕ)
      → run h end registers last (code ∷ bytes)
      ≡ after_turn (run h end) (turn_at h end registers last (code ∷ bytes))
  unfolding run_of
  run_next registers last code bytes =
      let whole : List ℕ = code ∷ bytes in
      let one : length whole ≡ suc (length bytes) = omega arith in
      ap (λ (n : ℕ). run_of h end n registers last (code ∷ bytes)) one
      ∙ same_after (run_of h end (length bytes)) (run h end)
      (turn_at h end registers last (code ∷ bytes))
      (IfOk-weaker (turn_at h end registers last (code ∷ bytes)) (λ t. length t.rest < length (code ∷ bytes))
      (λ t. (r : Row) (l : Option ℕ) → run_of h end (length bytes) r l t.rest ≡ run h end r l t.rest)
      (λ t short. same_run (length bytes) (length t.rest) t.rest (omega arith) (omega arith))
      (turn_shorter registers last (code ∷ bytes)))

  -- no opcode is left
  pub run_done : (registers : Row) (last : Option ℕ) (bytes : List ℕ) (o : Option ℕ) → length bytes ≡ 0 → last ≡ o
      → run h end registers last bytes ≡ at_end end o
  unfolding run_of
  run_done registers last [] o none e = ap (at_end end) e
  run_done registers last (b ∷ bytes) o none e = absurd (omega arith)

  module _ (registers : Row) (last : Option ℕ) (whole : List ℕ) where
    module _ (code : ℕ) (bytes : List ℕ) (parts : whole ≡ code ∷ bytes) where
      pub rest_shorter : (t : Turn)
          → then_turn (opcode_after h code) h last registers bytes ≡ Ok t → length t.rest < length whole
      rest_shorter t e =
          let whole_turn : turn_at h end registers last (code ∷ bytes) ≡ Ok t = rw e refl in
          omega (
            arith,
            ap length parts,
            IfOk-at_ok (λ (t : Turn). length t.rest < length (code ∷ bytes)) whole_turn
                (turn_shorter registers last (code ∷ bytes)),
          )

      -- an opcode that violates a rule
      pub run_fails : (rule : LineRule)
          → then_turn (opcode_after h code) h last registers bytes ≡ Err rule
          → run h end registers last whole
          ≡ failed (record { rule = rule; at = end - length whole })
      run_fails rule e = rw parts (run_next registers last code bytes ∙ rw e refl)

      -- an opcode that violates none
      pub run_on : (t : Turn) → then_turn (opcode_after h code) h last registers bytes ≡ Ok t
          → (o : Option Row) → t.row ≡ o
          → run h end registers last whole
          ≡ with_row o (run h end t.registers t.last t.rest)
      run_on t e o row =
          rw parts (run_next registers last code bytes ∙ rw e refl)
          ∙ ap (λ (r : Option Row). with_row r (run h end t.registers t.last t.rest)) row
