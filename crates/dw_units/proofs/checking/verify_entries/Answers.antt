use Rattle.std.proofs.Common.{subst}
use Rattle.dw_units.specs.Counts.{AreCounts}
use Rattle.dw_units.specs.BatchSections.{passes, sound}
use Rattle.dw_units.proofs.CountLemmas.{fault_after}
use Rattle.dw_units.proofs.checking.verify_entries.Goals as goal

pub returns-in-Some : goal.returns-in-Some
returns-in-Some c =
    let judged = rw c.in-Sound-2.is at c.in_ok-image-in-Sound.ensures in
    rw (c.in-Sound.is, c.in-Some.ensures) (sound c.in-Sound.counts c.of.result
    (subst (λ s. AreCounts s c.of.result) judged.sections c.of.ensures.counts))

pub returns-in-Sound : goal.returns-in-Sound
returns-in-Sound c =
    let judged = rw c.in-Fault-2.is at c.in_ok-image-in-Sound.ensures in
    fault_after _ _ _ _ _ c.requires judged (rw c.in-Sound.is tt) _ c.firmly_found.ensures

pub returns-in-Some-2 : goal.returns-in-Some-2
returns-in-Some-2 c =
    let judged = rw c.in-Some-2.is at c.in_ok-fault-in-Fault.ensures in
    fault_after _ _ _ _ _ c.requires judged.is_fault (rw c.in-Fault.is judged.early) _
    c.firmly_found-in-Some-2.ensures

pub returns : goal.returns
returns c =
    rw c.in-Fault.is (passes c.in-Fault.least (rw c.in-None-2.is at c.in_ok-fault-in-Fault.ensures))
