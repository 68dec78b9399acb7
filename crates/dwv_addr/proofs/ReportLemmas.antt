-- What is returned and written of a file, by what is found of it.
use Rattle.std.proofs.Common.{◌≡◌, ℕ, ◌<◌, Bool, List, length, Option}
use Rattle.dw_ranges.specs.Functions.{Known as KnownUnit}
use Rattle.dw_lookup.specs.Files.{FileFails}
use Rattle.dw_lookup.specs.declared.first_fault.FirstFault.{FirstFault}
use Rattle.dw_lookup.specs.declared.first_fault.FirstFault.TheVariants.{File}
use Rattle.dw_lookup.specs.declared.known.Known.{Known}
use Rattle.dw_report.specs.Reports.{too_large}
use Rattle.dwv_addr.specs.Faults.{first_fault_text}
use Rattle.dwv_addr.specs.Located.{AreAnswers}
use Rattle.dwv_addr.specs.Reports.{FileReport, Report, SoundReport, answered, asked_status, counted, counts_text}
use Rattle.dwv_addr.specs.Reports.{large, violates}
use Rattle.dwv_addr.specs.Requests.{writes_json}
use Rattle.dwv_addr.specs.Sound.{counts_of}
use Rattle.dwv_addr.specs.declared.counts.Counts.{Counts}
use Rattle.dwv_addr.specs.declared.request.Request.{Request}
use Rattle.dwv_addr.specs.declared.request.Request.TheVariants.{Check, Find}
use Rattle.dwv_addr.specs.declared.request.Status.{Status}
use Rattle.dwv_addr.specs.declared.request.Status.TheVariants.{Sound, Fault}

pub fault_report : (bytes : List ℕ) (r : Request) (asked : List (Option ℕ)) (f : FirstFault) (status : Status)
    (text : List ℕ) → status ≡ Fault → text ≡ first_fault_text (writes_json r) f → FileFails bytes f
    → FileReport bytes r asked status text
fault_report bytes r asked f status text ends is fails = rw (ends, is) (violates f fails)

pub large_report : (limit : ℕ) (bytes : List ℕ) (r : Request) (asked : List (Option ℕ)) (status : Status)
    (text : List ℕ) → limit < length bytes → status ≡ Fault
    → text ≡ first_fault_text (writes_json r) (File too_large) → Report limit bytes r asked status text
large_report limit bytes r asked status text past ends is = rw (ends, is) (large past)

module _ (known : Known) (units : List KnownUnit) (asked : List (Option ℕ)) where
  pub counts_report : (r : Request) (json : Bool) (c : Counts) (text : List ℕ) → r ≡ Check json
      → text ≡ counts_text json c → c ≡ counts_of known.lines known.functions
      → SoundReport known units asked r Sound text
  counts_report r json c text is written are = rw (is, written, are) (counted json)

  pub answers_report : (r : Request) (json : Bool) (status : Status) (text : List ℕ) → r ≡ Find json
      → status ≡ asked_status asked → AreAnswers json known units asked text
      → SoundReport known units asked r status text
  answers_report r json status text is ends are = rw (is, ends) (answered json text are)
