-- Chapter: what is written of a report, the exit status, and the line on standard error.
use Rattle.std.specs.Prelude.{◌≡◌, ℕ, List, [], codes, take, Option, None, Some, Result, Ok, Err, IfOk, IfSome, IsErrOf}
use Rattle.std.specs.Io.KnownBytes.{Appends}
use Rattle.dw_report.specs.Reports.{Report, file_limit, status_code}
use Rattle.dw_report.specs.declared.request.Request.{Request}
use Rattle.dw_report.specs.declared.request.Status.{Status}
use Rattle.dw_io.specs.declared.transfer.RunFault.{RunFault}
use Rattle.dwv.specs.declared.endings.Outcome.{Outcome}
use Rattle.dwv.specs.declared.endings.Outcome.TheVariants.{Ran, Refused, Unopened}
use Rattle.dwv.specs.declared.words.WordsFault.{WordsFault}
use Rattle.dwv.specs.declared.words.WordsFault.TheVariants as words
use Rattle.dw_io.specs.declared.transfer.RunFault.TheVariants.{ReadFailed, WriteFailed, Memory}

-- a writer whose known bytes were `old` and are `new` has taken the report of these bytes
abbrev pub WritesReport : ℕ → Request → List ℕ → Status → Option (List ℕ) → Option (List ℕ) → Type 0
WritesReport limit request input status old new =
    (text : List ℕ) × Report limit request input status text × Appends old new text

-- it has taken a prefix of the report
abbrev pub WritesPrefix : ℕ → Request → List ℕ → Option (List ℕ) → Option (List ℕ) → Type 0
WritesPrefix limit request input old new =
    (status : Status) × (text : List ℕ) × (n : ℕ)
    × Report limit request input status text × Appends old new (take n text)

-- the exit status
abbrev pub exit_status : Result Status RunFault → ℕ
exit_status (Ok status) = status_code status
exit_status (Err ReadFailed) = 3
exit_status (Err WriteFailed) = 3
exit_status (Err Memory) = 4

-- the line for standard error
abbrev pub line_of : Result Status RunFault → List ℕ
line_of (Ok _) = []
line_of (Err ReadFailed) = codes "dwv: reading failed"
line_of (Err WriteFailed) = codes "dwv: writing failed"
line_of (Err Memory) = codes "dwv: out of memory"

-- the exit status where the words are no request
abbrev pub words_status : WordsFault → ℕ
words_status words.BadUsage = 2
words_status words.BadOffset = 2
words_status words.Memory = 4

-- the line for standard error
abbrev pub words_line : WordsFault → List ℕ
words_line words.BadUsage = codes "dwv: bad usage"
words_line words.BadOffset = codes "dwv: bad offset"
words_line words.Memory = codes "dwv: out of memory"

-- the exit status of the program
abbrev pub ending_status : Outcome → ℕ
ending_status (Refused fault) = words_status fault
ending_status Unopened = 3
ending_status (Ran outcome) = exit_status outcome

-- its line for standard error
abbrev pub ending_line : Outcome → List ℕ
ending_line (Refused fault) = words_line fault
ending_line Unopened = codes "dwv: cannot open file"
ending_line (Ran outcome) = line_of outcome

-- what `run` promises of a result, for the bytes of a reader, which may be known. A writer, with the bytes that it is
-- known to hold, has taken the report of them, or a prefix if writing failed
pub record HasRun {W : Type 0} (contents : W → Option (List ℕ)) (request : Request) (input : Option (List ℕ))
    (old new : W) (outcome : Result Status RunFault) : Type 0 where
  pub written : IfOk outcome (λ s. IfSome input
      (λ bytes. WritesReport file_limit request bytes s (contents old) (contents new)))
  pub unread : IsErrOf outcome ReadFailed → new ≡ old
  pub no_memory : IsErrOf outcome Memory → new ≡ old
  pub begun : IsErrOf outcome WriteFailed → IfSome input
      (λ bytes. WritesPrefix file_limit request bytes (contents old) (contents new))

-- the outcome of a request for a file, which may not be open
abbrev pub IsOutcomeOf : {W : Type 0} → (W → Option (List ℕ)) → Request → Option (Option (List ℕ)) → W → W → Outcome
    → Type 0
IsOutcomeOf contents request None old new outcome = (outcome ≡ Unopened) × (new ≡ old)
IsOutcomeOf contents request (Some input) old new outcome =
    (ran : Result Status RunFault) × (outcome ≡ Ran ran) × HasRun contents request input old new ran
