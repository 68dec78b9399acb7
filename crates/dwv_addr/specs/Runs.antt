-- Chapter: what a run of the program writes, by the bytes of the file and of standard input, where they are known.
use Rattle.std.specs.Prelude.{◌≡◌, ◌≢◌, ◌⊎◌, ℕ, Bool, List, [], take, Option, None, Some, Result, IfOk, IfSome}
use Rattle.std.specs.Prelude.{IsErrOf}
use Rattle.std.specs.Io.KnownBytes.{Appends, Consumes}
use Rattle.dw_io.specs.declared.transfer.RunFault.{RunFault}
use Rattle.dw_io.specs.declared.transfer.RunFault.TheVariants.{ReadFailed, WriteFailed, Memory}
use Rattle.dw_report.specs.Reports.{file_limit}
use Rattle.dwv_addr.specs.Addresses.{asked_so_far, ended_lines}
use Rattle.dwv_addr.specs.Endings.{asked_from}
use Rattle.dwv_addr.specs.Reports.{Report}
use Rattle.dwv_addr.specs.declared.endings.Outcome.{Outcome}
use Rattle.dwv_addr.specs.declared.endings.Outcome.TheVariants.{Ran, Unopened}
use Rattle.dwv_addr.specs.declared.request.Request.{Request}
use Rattle.dwv_addr.specs.declared.request.Request.TheVariants.{Find}
use Rattle.dwv_addr.specs.declared.request.Status.{Status}
use Rattle.dwv_addr.specs.declared.request.Status.TheVariants.{Fault}

-- this holds of the bytes of a file and of the addresses that are asked for, if both are known
abbrev pub IfKnown : Option (List ℕ) → Option (List (Option ℕ)) → (List ℕ → List (Option ℕ) → Type 0) → Type 0
IfKnown file asked P = IfSome file (λ bytes. IfSome asked (P bytes))

-- a writer whose known bytes were `old` and are `new` has taken the report of a file for these addresses
abbrev pub WritesReport : Request → Status → (old new : Option (List ℕ)) → List ℕ → List (Option ℕ) → Type 0
WritesReport request status old new bytes asked =
    (text : List ℕ) × Report file_limit bytes request asked status text × Appends old new text

-- it has taken a prefix of the report
abbrev pub WritesPrefix : Request → (old new : Option (List ℕ)) → List ℕ → List (Option ℕ) → Type 0
WritesPrefix request old new bytes asked =
    (status : Status) × (text : List ℕ) × (n : ℕ)
    × Report file_limit bytes request asked status text × Appends old new (take n text)

-- it has taken a prefix of the report for the first of them
abbrev pub WritesFirst : Request → (old new : Option (List ℕ)) → List ℕ → List (Option ℕ) → Type 0
WritesFirst request old new bytes asked = (count : ℕ) × WritesPrefix request old new bytes (take count asked)

-- an input, which may be known, was read up to `rest`, and a writer has taken the report of a sound file for the lines
-- that end in what was read. Nothing was written if none does
pub record HasAnswered {W : Type 0} (contents : W → Option (List ℕ)) (request : Request) (bytes : List ℕ)
    (input rest : Option (List ℕ)) (old new : W) : Type 0 where
  pub part : List ℕ
  pub read : Consumes input rest part
  pub status : Status
  pub sound : status ≢ Fault
  pub written : WritesReport request status (contents old) (contents new) bytes (asked_so_far part)
  pub unbegun : ended_lines part ≡ [] → new ≡ old

-- the request is for the lines of the input, which are answered as they come
abbrev pub IsForLines : Request → (given : List (Option ℕ)) → Type 0
IsForLines request given = (json : Bool) × (request ≡ Find json) × (given ≡ [])

module _ {W : Type 0} (contents : W → Option (List ℕ)) (request : Request) (given : List (Option ℕ)) where
  -- nothing was written, or the lines that end in what was read of the input were answered
  abbrev pub IsStopped : (file input rest : Option (List ℕ)) → (old new : W) → Type 0
  IsStopped file input rest old new = (new ≡ old)
      ⊎ (IsForLines request given × IfSome file (λ bytes. HasAnswered contents request bytes input rest old new))

  -- a prefix of the report was written, or one of the report for the first lines of the input
  abbrev pub IsCut : (file input : Option (List ℕ)) → (old new : W) → Type 0
  IsCut file input old new =
      IfKnown file (asked_from request given input) (WritesPrefix request (contents old) (contents new))
      ⊎ (IsForLines request given
      × IfKnown file (asked_from request given input) (WritesFirst request (contents old) (contents new)))

-- what `run` promises of a result, for the bytes of a file and of an input, which was read up to `rest`, and which may
-- be known. A writer, with the bytes that it is known to hold, has taken the report, or a part of it if the request
-- failed
pub record HasRun {W : Type 0} (contents : W → Option (List ℕ)) (request : Request) (given : List (Option ℕ))
    (file input rest : Option (List ℕ)) (old new : W) (outcome : Result Status RunFault) : Type 0 where
  pub written : IfOk outcome (λ s.
      IfKnown file (asked_from request given input) (WritesReport request s (contents old) (contents new)))
  pub unread : IsErrOf outcome ReadFailed → IsStopped contents request given file input rest old new
  pub no_memory : IsErrOf outcome Memory
      → (last : Option (List ℕ)) × IsStopped contents request given file input last old new
  pub begun : IsErrOf outcome WriteFailed → IsCut contents request given file input old new

-- the outcome of a request for a file, which may not be open
abbrev pub IsOutcomeOf : {W : Type 0} → (W → Option (List ℕ)) → Request → (given : List (Option ℕ))
    → Option (Option (List ℕ)) → (input rest : Option (List ℕ)) → (old new : W) → Outcome → Type 0
IsOutcomeOf contents request given None input rest old new outcome = (outcome ≡ Unopened) × (new ≡ old)
IsOutcomeOf contents request given (Some file) input rest old new outcome = (ran : Result Status RunFault)
    × (outcome ≡ Ran ran) × HasRun contents request given file input rest old new ran
