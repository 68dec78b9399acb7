-- Chapter: the report of a request in a buffer of the caller.
use Rattle.std.specs.Prelude.{◌≡◌, ℕ, ◌==◌, ◌<◌, ◌≤◌, true, false, List, ◌++◌, length, drop, Option, Some, None}
use Rattle.std.specs.Prelude.{if◌then◌else◌}
use Rattle.dw_report.specs.declared.request.Request.{Request}
use Rattle.dw_report.specs.declared.request.Request.TheVariants.{Check, Show, Types, Size}
use Rattle.dw_report.specs.declared.request.Status.{Status}
use Rattle.dw_report.specs.Reports.{Report, file_limit, status_code}
use Rattle.dwv_c.specs.Verdicts.{NO_MEMORY, TOO_SHORT, NO_REQUEST}

-- the request with a number; only `size` has the offset
abbrev pub request_of : (number offset : ℕ) → Option Request
request_of number offset =
    if number == 0 then Some (Check false) else if number == 1 then Some (Check true)
    else if number == 2 then Some Show else if number == 3 then Some Types
    else if number == 4 then Some (Size offset) else None

-- what is returned, and the buffer and the length then: the exit status, all of the report, and the rest of the buffer
-- as it was; or the buffer as it was, if it is too short, if an allocation failed, or if no request has the number
pub data PutsReport (bytes : List ℕ) (request : Option Request) (buffer : List ℕ) (needed : ℕ)
    : ℕ → List ℕ → ℕ → Type 0 where
  whole : (r : Request) (status : Status) (text : List ℕ) → request ≡ Some r → Report file_limit r bytes status text
      → length text ≤ length buffer
      → PutsReport bytes request buffer needed (status_code status) (text ++ drop (length text) buffer) (length text)
  short : (r : Request) (status : Status) (text : List ℕ) → request ≡ Some r → Report file_limit r bytes status text
      → length buffer < length text → PutsReport bytes request buffer needed TOO_SHORT buffer (length text)
  memory : PutsReport bytes request buffer needed NO_MEMORY buffer needed
  unknown : request ≡ None → PutsReport bytes request buffer needed NO_REQUEST buffer needed
