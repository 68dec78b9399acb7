-- State: what is gathered of the frames at addresses before it is written, and what is returned where there is none.
use Rattle.std.specs.Prelude.{◌≡◌, ℕ, List, ◌++◌, length}
use Rattle.dw_forms.specs.declared.fault.Stop.{Stop}
use Rattle.dw_forms.specs.declared.fault.Stop.TheVariants.{Fault, Memory}
use Rattle.dw_ranges.specs.Files.{IsIndexOf}
use Rattle.dw_ranges.specs.Functions.{Known as KnownUnit}
use Rattle.dw_lookup.specs.declared.first_fault.FirstFault.{FirstFault}
use Rattle.dw_lookup.specs.declared.known.Known.{Known}
use Rattle.dwv_c.specs.Frames.{AreAtAll, FrameArrays, LocatedFrame, arrays_of, frame_arrays, frame_rows, texts_of}
use Rattle.dwv_c.specs.Frames.{of_first_fault}
use Rattle.dwv_c.specs.Verdicts.{FAULT, NO_MEMORY}
use Rattle.dwv_c.specs.declared.frames.Gathered.{Gathered}
use Rattle.dwv_c.specs.declared.verdict.Verdict.{Verdict}

-- the arrays of what is gathered
abbrev pub gathered_arrays : Gathered → FrameArrays
gathered_arrays g = frame_arrays g.located.items g.frames.items g.text.items

-- the rows and the texts of these frames were added
pub record HasMore (known : Known) (found : List LocatedFrame) (old new : Gathered) : Type 0 where
  pub frames : new.frames.items ≡ old.frames.items ++ frame_rows known (length old.text.items) found
  pub text : new.text.items ≡ old.text.items ++ texts_of known found
  pub located : new.located.items ≡ old.located.items

-- all that is to be written of the frames at addresses is gathered
pub record IsAllOf (known : Known) (addresses : List ℕ) (it : FrameArrays) : Type 0 where
  pub all : List (List LocatedFrame)
  pub is : it ≡ arrays_of known all
  pub are : (units : List KnownUnit) → IsIndexOf units known.functions → AreAtAll known units addresses all

-- what is returned for a file that violates a rule, or if an allocation failed
abbrev pub stop_status : Stop FirstFault → ℕ
stop_status (Fault f) = FAULT
stop_status Memory = NO_MEMORY

-- the verdict then
abbrev pub stop_verdict : Stop FirstFault → Verdict → Verdict
stop_verdict (Fault f) old = of_first_fault f
stop_verdict Memory old = old
