-- Chapter: which addresses are asked for, the exit status, and the line on standard error.
use Rattle.std.specs.Prelude.{ℕ, List, [], ◌∷◌, codes, Option, None, Some, Result, Ok, Err}
use Rattle.dw_io.specs.declared.transfer.RunFault.{RunFault}
use Rattle.dw_io.specs.declared.transfer.RunFault.TheVariants.{ReadFailed, WriteFailed, Memory}
use Rattle.dwv_addr.specs.Addresses.{asked_by}
use Rattle.dwv_addr.specs.declared.endings.Outcome.{Outcome}
use Rattle.dwv_addr.specs.declared.endings.Outcome.TheVariants.{Ran, Refused, Unopened}
use Rattle.dwv_addr.specs.declared.request.Request.{Request}
use Rattle.dwv_addr.specs.declared.request.Request.TheVariants.{Check, Find}
use Rattle.dwv_addr.specs.declared.request.Status.{Status}
use Rattle.dwv_addr.specs.declared.request.Status.TheVariants.{Sound, Fault, BadAddress}
use Rattle.dwv_addr.specs.declared.words.WordsFault.{WordsFault}
use Rattle.dwv_addr.specs.declared.words.WordsFault.TheVariants as words

-- the addresses that a request is for, with those that the words are and the input, which may be known: the words, or
-- the lines of the input if there are no words
abbrev pub asked_from : Request → List (Option ℕ) → Option (List ℕ) → Option (List (Option ℕ))
asked_from (Check json) given input = Some given
asked_from (Find json) (word ∷ given) input = Some (word ∷ given)
asked_from (Find json) [] None = None
asked_from (Find json) [] (Some text) = Some (asked_by text)

-- the exit status of a request that has a result
abbrev pub status_code : Status → ℕ
status_code Sound = 0
status_code Fault = 1
status_code BadAddress = 2

-- the exit status
abbrev pub exit_status : Result Status RunFault → ℕ
exit_status (Ok status) = status_code status
exit_status (Err ReadFailed) = 3
exit_status (Err WriteFailed) = 3
exit_status (Err Memory) = 4

-- the line for standard error
abbrev pub line_of : Result Status RunFault → List ℕ
line_of (Ok Sound) = []
line_of (Ok Fault) = []
line_of (Ok BadAddress) = codes "dwv-addr: bad address"
line_of (Err ReadFailed) = codes "dwv-addr: reading failed"
line_of (Err WriteFailed) = codes "dwv-addr: writing failed"
line_of (Err Memory) = codes "dwv-addr: out of memory"

-- the exit status where the words are no request
abbrev pub words_status : WordsFault → ℕ
words_status words.BadUsage = 2
words_status words.Memory = 4

-- the line for standard error
abbrev pub words_line : WordsFault → List ℕ
words_line words.BadUsage = codes "dwv-addr: bad usage"
words_line words.Memory = codes "dwv-addr: out of memory"

-- the exit status of the program
abbrev pub ending_status : Outcome → ℕ
ending_status (Refused fault) = words_status fault
ending_status Unopened = 3
ending_status (Ran outcome) = exit_status outcome

-- its line for standard error
abbrev pub ending_line : Outcome → List ℕ
ending_line (Refused fault) = words_line fault
ending_line Unopened = codes "dwv-addr: cannot open file"
ending_line (Ran outcome) = line_of outcome
