-- The counts or the error of what is given.
use Rattle.std.proofs.Common.{◌≡◌, ℕ, Result, Ok, Err}
use Rattle.dw_units.specs.declared.counts.Counts.{Counts}
use Rattle.dw_forms.specs.Stops.{IfFault}
use Rattle.dw_forms.specs.declared.fault.Stop.{Stop}
use Rattle.dw_forms.specs.declared.fault.Stop.TheVariants.{Fault, Memory}
use Rattle.dwv_c.specs.declared.verdict.Verdict.{Verdict}
use Rattle.dwv_c.specs.Verdicts.{Given, AreCountsOf, Checks, IsFaultOfGiven, IsRefusal, refused, sound, fault, memory}
use Rattle.dwv_c.specs.Checked.{IsFound, status_of, verdict_after}

-- no sections are given
pub none_given : (g : Given) (e : Stop Verdict) → IfFault (IsRefusal g) e → IfFault (IsFaultOfGiven g) e
none_given g (Fault v) is = refused v is
none_given g Memory is = tt

-- what is returned and written
pub told : (g : Given) (r : Result Counts (Stop Verdict)) (old new : Verdict) (status : ℕ)
    → status ≡ status_of r → new ≡ verdict_after r old → IsFound g (AreCountsOf g) r → Checks g old status new
told g (Ok c) old new status is_status is_new is = rw (is_status, is_new) (sound c is)
told g (Err (Fault v)) old new status is_status is_new is = rw (is_status, is_new) (fault v is)
told g (Err Memory) old new status is_status is_new is = rw (is_status, is_new) memory
