-- The report of what is read is the report of the whole input.
use Rattle.std.proofs.Common.{◌≡◌, ℕ, ◌+◌, ◌<◌, ◌≤◌, Bool, List, length, take, Option, IfSome, ◌∙◌, subst, arith}
use Rattle.std.specs.Prelude.{Result, Ok, Err, IfOk, OnOk}
use Rattle.std.specs.Io.KnownBytes.{Appends}
use Rattle.std.proofs.lemmas.Grind.{common_steps}
use Rattle.std.proofs.lemmas.Option.{IfSome_then}
use Rattle.dw_elf.specs.Checks.{ChecksPass}
use Rattle.dw_elf.specs.Rules.{IsFault}
use Rattle.dw_elf.specs.Sections.{AreSections}
use Rattle.dw_report.specs.declared.request.Request.{Request}
use Rattle.dw_report.specs.declared.request.Status.{Status}
use Rattle.dw_io.specs.Devices.{HasGiven}
use Rattle.dw_io.specs.declared.transfer.RunFault.{RunFault}
use Rattle.dw_report.specs.Reports.{Report, file_limit, large, fails, of_sections}
use Rattle.dwv.specs.Reports.{WritesReport, WritesPrefix}

-- what is read within the limit is all there is
all_read : (limit : ℕ) (input : List ℕ) → length (take (limit + 1) input) ≤ limit → take (limit + 1) input ≡ input
all_read limit input le = grind (arith, common_steps)

past_limit : (limit : ℕ) (input : List ℕ) → limit < length (take (limit + 1) input) → limit < length input
past_limit limit input lt = grind (arith, common_steps)

read_all : (limit : ℕ) (input bytes : List ℕ) → bytes ≡ take (limit + 1) input → length bytes ≤ limit → bytes ≡ input
read_all limit input bytes e le = e ∙ all_read limit input (subst (λ xs. length xs ≤ limit) e le)

Report-of_read : (limit : ℕ) (request : Request) (input bytes : List ℕ) (status : Status) (text : List ℕ)
    → bytes ≡ take (limit + 1) input → Report limit request bytes status text → Report limit request input status text
Report-of_read limit request input bytes status text e (large lt) =
    large (past_limit limit input (subst (λ xs. limit < length xs) e lt))
Report-of_read limit request input bytes status text e (fails f le x) =
    let all = read_all limit input bytes e le in
    fails f (subst (λ xs. length xs ≤ limit) all le) (subst (λ xs. IsFault xs f) all x)
Report-of_read limit request input bytes status text e (of_sections s _ _ le p are x) =
    let all = read_all limit input bytes e le in
    of_sections s status text (subst (λ xs. length xs ≤ limit) all le) (subst ChecksPass all p)
    (subst (λ xs. AreSections xs s) all are) x

module _ (request : Request) (input : Option (List ℕ)) (ended : Bool) (given text : List ℕ)
    (old new : Option (List ℕ)) where
  is_report : (status : Status) → Report file_limit request given status text → (all : List ℕ)
      → given ≡ take (file_limit + 1) all → Report file_limit request all status text
  is_report status is all known = Report-of_read file_limit request all given status text known is

  -- what is taken of the report of what a reader gave
  pub written-of_given : (result : Result Status RunFault) → OnOk result (HasGiven file_limit input ended given)
      → IfOk result (λ status. Report file_limit request given status text) → OnOk result (Appends old new text)
      → IfOk result (λ status. IfSome input (λ all. WritesReport file_limit request all status old new))
  written-of_given (Ok status) has is taken =
      IfSome_then input has.1 (λ all known. (text, is_report status is all known, taken))
  written-of_given (Err fault) has is taken = tt

  -- what is taken of it, if writing failed
  pub cut-of_given : (n : ℕ) → HasGiven file_limit input ended given
      × ((status : Status) × Report file_limit request given status text) × Appends old new (take n text)
      → IfSome input (λ all. WritesPrefix file_limit request all old new)
  cut-of_given n (has, (status, is), taken) =
      IfSome_then input has.1 (λ all known. (status, text, n, is_report status is all known, taken))
