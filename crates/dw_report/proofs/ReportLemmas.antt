-- What is returned and written of sound sections and of others, by the request.
use Rattle.std.proofs.Common.{◌≡◌, ℕ, Bool, List}
use Rattle.dw_elf.specs.declared.sections.Sections.{Sections}
use Rattle.dw_entries.specs.declared.fault.Fault.{Fault as FirstFault}
use Rattle.dw_image.specs.declared.image.Image.{Image}
use Rattle.dw_image.specs.Images.{sections_in}
use Rattle.dw_image.specs.Headline.{IsFaultOf}
use Rattle.dw_image.proofs.JoinLemmas.{sound_image}
use Rattle.dw_units.specs.declared.counts.Counts.{Counts}
use Rattle.dw_units.specs.Counts.{AreCounts}
use Rattle.dw_report.specs.declared.request.Request.{Request}
use Rattle.dw_report.specs.declared.request.Request.TheVariants.{Check, Show, Types, Size}
use Rattle.dw_report.specs.declared.request.Status.{Status}
use Rattle.dw_report.specs.declared.request.Status.TheVariants.{Sound, Fault}
use Rattle.dw_report.specs.Reports.{AreTypeLines, SectionsReport, SoundReport, counted, counts_text, fault, fault_text}
use Rattle.dw_report.specs.Reports.{listed, shown, sized}
use Rattle.dw_report.specs.Shown.{show_lines, size_status, size_text, type_at_offset}

pub fault_report : (s : Sections) (r : Request) (f : FirstFault) (text : List ℕ) → text ≡ fault_text r f
    → IsFaultOf s f → SectionsReport s r Fault text
fault_report s r f text is broken = rw is (fault f broken)

pub counts_report : (s : Sections) (r : Request) (json : Bool) (c : Counts) (text : List ℕ) → r ≡ Check json
    → text ≡ counts_text json c → AreCounts s c → SoundReport s r Sound text
counts_report s r json c text asked is counts = rw (asked, is) (counted json c counts)

pub show_report : (i : Image) (r : Request) (text : List ℕ) → r ≡ Show → text ≡ show_lines i
    → SoundReport (sections_in i) r Sound text
show_report i r text asked is = rw (asked, is) (shown i (sound_image i))

pub types_report : (i : Image) (r : Request) (text : List ℕ) → r ≡ Types → AreTypeLines i text
    → SoundReport (sections_in i) r Sound text
types_report i r text asked lines = rw asked (listed i text (sound_image i) lines)

pub size_report : (i : Image) (r : Request) (offset : ℕ) (status : Status) (text : List ℕ) → r ≡ Size offset
    → text ≡ size_text i (type_at_offset i offset) → status ≡ size_status (type_at_offset i offset)
    → SoundReport (sections_in i) r status text
size_report i r offset status text asked is ends = rw (asked, is, ends) (sized i offset (sound_image i))
