use Rattle.std.proofs.Common.{arith, refl}
use Rattle.std.proofs.lemmas.Bool.{le-ltb}
use Rattle.std.proofs.lemmas.List.{map-append}
use Rattle.std.proofs.lemmas.Result.{err_from_is_err_and}
use Rattle.dw_forms.specs.declared.fault.Stop.TheVariants as stops
use Rattle.dw_lines.proofs.RepeatLaws.{times_begin, times_all, times_more, times_fault}
use Rattle.dw_lines.proofs.program.LineSections.entries.Goals as goal

pub loop-init : goal.loop-init
loop-init c = times_begin _ _ _ _ _ (omega arith) (rw c.new-entries.ensures.items refl)

pub returns-in_err-entry : goal.returns-in_err-entry
returns-in_err-entry c =
    let e = err_from_is_err_and c.from_residual-in_err-entry.result c.from_residual-in_err-entry.ensures.1 in
    rw (e.1, e.2, le-ltb _ _ c.if-version-lt5.false, c.in_ok-contents.ensures)
    (times_fault _ (stops.Fault _) _ _ _ _ (omega arith) c.loop.invariant
    (rw (rw c.deref.ensures.value at c.in_err-entry.ensures) refl))

pub loop-preserved : goal.loop-preserved
loop-preserved c =
    rw (c.in_ok-push.ensures.items, map-append) (times_more _ _ _ _ _ _ _ _ (omega arith) c.loop.invariant
    (rw (rw c.deref.ensures.value at c.in_ok-entry.ensures) refl))

pub returns : goal.returns
returns c =
    rw (le-ltb _ _ c.if-version-lt5.false, c.in_ok-contents.ensures)
    (times_all _ _ _ _ _ (omega arith) c.loop.invariant)
