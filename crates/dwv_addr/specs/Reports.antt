-- Chapter: what is returned and written of a file: the first rule that it violates, or what is requested of a sound
-- one.
use Rattle.std.specs.Prelude.{ℕ, ◌<◌, ◌≤◌, Bool, true, false, List, length, Option, if◌then◌else◌}
use Rattle.std.specs.List.{list_all}
use Rattle.std.specs.Option.{is_some}
use Rattle.dw_ranges.specs.Functions.{Known as KnownUnit}
use Rattle.dw_lookup.specs.Files.{FileFails, IsSound}
use Rattle.dw_lookup.specs.declared.first_fault.FirstFault.{FirstFault}
use Rattle.dw_lookup.specs.declared.first_fault.FirstFault.TheVariants.{File}
use Rattle.dw_lookup.specs.declared.known.Known.{Known}
use Rattle.dw_report.specs.JsonObjects.{object_line}
use Rattle.dw_report.specs.Reports.{too_large}
use Rattle.dwv_addr.specs.Faults.{first_fault_text}
use Rattle.dwv_addr.specs.Located.{AreAnswers}
use Rattle.dwv_addr.specs.Requests.{writes_json}
use Rattle.dwv_addr.specs.Sound.{counts_of, sound_line, sound_object}
use Rattle.dwv_addr.specs.declared.counts.Counts.{Counts}
use Rattle.dwv_addr.specs.declared.request.Request.{Request}
use Rattle.dwv_addr.specs.declared.request.Request.TheVariants.{Check, Find}
use Rattle.dwv_addr.specs.declared.request.Status.{Status}
use Rattle.dwv_addr.specs.declared.request.Status.TheVariants.{Sound, Fault, BadAddress}

-- the counts of a sound file: an object in JSON if `--json` was given, else a line
abbrev pub counts_text : (json : Bool) → Counts → List ℕ
counts_text true counts = object_line (sound_object counts)
counts_text false counts = sound_line counts

-- how a request for addresses of a sound file ends, by whether each word or line is one
abbrev pub status_if : Bool → Status
status_if are = if are then Sound else BadAddress

-- how a request for such words or lines ends
abbrev pub asked_status : List (Option ℕ) → Status
asked_status asked = status_if (list_all is_some asked)

-- what is returned and written of a sound file, by the functions of its units: its counts, or the answers for addresses
pub data SoundReport (known : Known) (units : List KnownUnit) (asked : List (Option ℕ))
    : Request → Status → List ℕ → Type 0 where
  counted : (json : Bool)
      → SoundReport known units asked (Check json) Sound (counts_text json (counts_of known.lines known.functions))
  answered : (json : Bool) (text : List ℕ) → AreAnswers json known units asked text
      → SoundReport known units asked (Find json) (asked_status asked) text

-- what is returned and written of a file: its first fault, or what is requested of a sound one
pub data FileReport (bytes : List ℕ) (request : Request) (asked : List (Option ℕ)) : Status → List ℕ → Type 0 where
  violates : (f : FirstFault) → FileFails bytes f
      → FileReport bytes request asked Fault (first_fault_text (writes_json request) f)
  sound : (known : Known) (status : Status) (text : List ℕ) → (is : IsSound bytes known)
      → SoundReport known is.functions_are.units asked request status text
      → FileReport bytes request asked status text

-- the same, if a file has at most `limit` bytes: the fault of a longer file comes before all others
pub data Report (limit : ℕ) (bytes : List ℕ) (request : Request) (asked : List (Option ℕ)) : Status → List ℕ → Type 0
  where
    large : limit < length bytes
        → Report limit bytes request asked Fault (first_fault_text (writes_json request) (File too_large))
    within : (status : Status) (text : List ℕ) → length bytes ≤ limit → FileReport bytes request asked status text
        → Report limit bytes request asked status text
