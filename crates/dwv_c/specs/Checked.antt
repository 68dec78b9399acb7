-- State: what is known of a check before the caller's memory is written, and what is written and returned then.
use Rattle.std.specs.Prelude.{ℕ, Result, Ok, Err, MatchResult}
use Rattle.dw_units.specs.declared.counts.Counts.{Counts}
use Rattle.dw_forms.specs.Stops.{IfFault}
use Rattle.dw_forms.specs.declared.fault.Stop.{Stop}
use Rattle.dw_forms.specs.declared.fault.Stop.TheVariants.{Fault, Memory}
use Rattle.dwv_c.specs.declared.verdict.Verdict.{Verdict}
use Rattle.dw_elf.specs.declared.sections.Sections.{Sections}
use Rattle.dwv_c.specs.Verdicts.{Given, SOUND, FAULT, NO_MEMORY, AreGiven, IsFaultOfGiven, IsRefusal, of_counts}

-- the sections that are given, or the fault if there are none
abbrev pub AreFound : Given → Result Sections (Stop Verdict) → Type 0
AreFound g found = MatchResult found (AreGiven g) (IfFault (IsRefusal g))

-- what is found of the sections: this holds of it, or the error is that of what is given
abbrev pub IsFound : {X : Type 0} → Given → (X → Type 0) → Result X (Stop Verdict) → Type 0
IsFound g Holds r = MatchResult r Holds (IfFault (IsFaultOfGiven g))

-- what a call returns
abbrev pub status_of : Result Counts (Stop Verdict) → ℕ
status_of (Ok c) = SOUND
status_of (Err (Fault v)) = FAULT
status_of (Err Memory) = NO_MEMORY

-- the caller's struct then: the counts, the fault, or the struct as it was
abbrev pub verdict_after : Result Counts (Stop Verdict) → Verdict → Verdict
verdict_after (Ok c) old = of_counts c
verdict_after (Err (Fault v)) old = v
verdict_after (Err Memory) old = old
