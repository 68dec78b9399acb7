-- The report of what is read is the report of the whole file.
use Rattle.std.proofs.Common.{◌≡◌, ℕ, ◌+◌, ◌<◌, ◌≤◌, List, length, take, Option, Some, None, IfSome, Result, Ok, Err, inl, inr, ◌∙◌, subst, arith}
use Rattle.std.specs.Prelude.{IfOk}
use Rattle.std.proofs.lemmas.Grind.{common_steps}
use Rattle.std.proofs.lemmas.Option.{IfSome_then}
use Rattle.dw_io.specs.declared.transfer.RunFault.{RunFault}
use Rattle.dw_report.specs.Reports.{file_limit}
use Rattle.dwv_addr.specs.Endings.{asked_from}
use Rattle.dwv_addr.specs.Reports.{FileReport, Report, large, within}
use Rattle.dwv_addr.specs.Runs.{IfKnown, IsCut, IsStopped, WritesPrefix, WritesReport}
use Rattle.dwv_addr.specs.declared.request.Request.{Request}
use Rattle.dwv_addr.specs.declared.request.Status.{Status}

-- what is read within the limit is all there is
all_read : (limit : ℕ) (file : List ℕ) → length (take (limit + 1) file) ≤ limit → take (limit + 1) file ≡ file
all_read limit file le = grind (arith, common_steps)

past_limit : (limit : ℕ) (file : List ℕ) → limit < length (take (limit + 1) file) → limit < length file
past_limit limit file lt = grind (arith, common_steps)

Report-of_read : (limit : ℕ) (request : Request) (file bytes : List ℕ) (asked : List (Option ℕ)) (status : Status)
    (text : List ℕ) → bytes ≡ take (limit + 1) file → Report limit bytes request asked status text
    → Report limit file request asked status text
Report-of_read limit request file bytes asked status text e (large lt) =
    large (past_limit limit file (subst (λ xs. limit < length xs) e lt))
Report-of_read limit request file bytes asked status text e (within _ _ le x) =
    let all = e ∙ all_read limit file (subst (λ xs. length xs ≤ limit) e le) in
    within status text (subst (λ xs. length xs ≤ limit) all le)
    (subst (λ xs. FileReport xs request asked status text) all x)

module _ (request : Request) (old new : Option (List ℕ)) (file bytes : List ℕ) (asked : List (Option ℕ)) where
  -- the same of what is written
  pub WritesReport-of_read : (status : Status) → bytes ≡ take (file_limit + 1) file
      → WritesReport request status old new bytes asked → WritesReport request status old new file asked
  WritesReport-of_read status read (text, is, written) =
      (text, Report-of_read file_limit request file bytes asked status text read is, written)

  pub WritesPrefix-of_read : bytes ≡ take (file_limit + 1) file
      → WritesPrefix request old new bytes asked → WritesPrefix request old new file asked
  WritesPrefix-of_read read (status, text, n, is, written) =
      (status, text, n, Report-of_read file_limit request file bytes asked status text read is, written)

module _ {W : Type 0} (contents : W → Option (List ℕ)) (request : Request) (given : List (Option ℕ)) (bytes : List ℕ)
    (input : Option (List ℕ)) (old new : W) where
  -- for what the file and the addresses are, if both are known
  pub written_of_read : (file : Option (List ℕ)) (r : Result Status RunFault)
      → IfSome file (λ all. bytes ≡ take (file_limit + 1) all)
      → IfOk r (λ status. IfSome (asked_from request given input)
      (WritesReport request status (contents old) (contents new) bytes))
      → IfOk r (λ status. IfKnown file (asked_from request given input)
      (WritesReport request status (contents old) (contents new)))
  written_of_read file (Err e) read written = tt
  written_of_read None (Ok status) read written = tt
  written_of_read (Some all) (Ok status) read written =
      IfSome_then (asked_from request given input) written (λ asked it.
      WritesReport-of_read request (contents old) (contents new) all bytes asked status read it)

  pub stopped_of_read : (file rest : Option (List ℕ)) → IfSome file (λ all. bytes ≡ take (file_limit + 1) all)
      → IsStopped contents request given (Some bytes) input rest old new
      → IsStopped contents request given file input rest old new
  stopped_of_read file rest read (inl same) = inl same
  stopped_of_read None rest read (inr (lines, has)) = inr (lines, tt)
  stopped_of_read (Some all) rest read (inr (lines, has)) = inr (
    lines,
    record {
      part = has.part;
      read = has.read;
      status = has.status;
      sound = has.sound;
      written = WritesReport-of_read request (contents old) (contents new) all bytes _ has.status read has.written;
      unbegun = has.unbegun;
    },
  )

  pub cut_of_read : (file : Option (List ℕ)) → IfSome file (λ all. bytes ≡ take (file_limit + 1) all)
      → IsCut contents request given (Some bytes) input old new → IsCut contents request given file input old new
  cut_of_read None read (inl cut) = inl tt
  cut_of_read None read (inr (lines, cut)) = inr (lines, tt)
  cut_of_read (Some all) read (inl cut) =
      inl (IfSome_then (asked_from request given input) cut (λ asked it.
      WritesPrefix-of_read request (contents old) (contents new) all bytes asked read it))
  cut_of_read (Some all) read (inr (lines, cut)) = inr (
    lines,
    IfSome_then (asked_from request given input) cut (λ asked (count, it).
        (count, WritesPrefix-of_read request (contents old) (contents new) all bytes (take count asked) read it)),
  )
