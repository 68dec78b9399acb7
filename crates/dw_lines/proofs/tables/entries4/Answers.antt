use Rattle.std.proofs.Common.{◌≡◌, ◌^◌, ◌∙◌, Some, None, arith, refl, sym}
use Rattle.std.proofs.lemmas.List.{map-append}
use Rattle.std.proofs.lemmas.Result.{err_from_is_err_and}
use Rattle.dw_forms.specs.declared.fault.Stop.TheVariants as stops
use Rattle.dw_lines.proofs.RepeatLaws.{goes_to_end, goes_further, goes_wrong}
use Rattle.dw_lines.proofs.tables.entries4.Goals as goal
use Rattle.dw_lines.proofs.tables.entries4.Goals.{in-Some-directories+in_ok-take_uleb+in_ok-entry+in_ok-_time+in_ok-_size}
use Rattle.dw_lines.proofs.tables.entries4.Goals.{in_default-directories}

pub loop-entries-init : goal.loop-entries-init
loop-entries-init c = record {
  same = refl;
  goes_on = (2 ^ 64, omega arith, rw (c.in_ok-push.ensures.items, c.new-entries.ensures.items) refl);
}

pub returns-in_err-path : goal.returns-in_err-path
returns-in_err-path c =
    let e = err_from_is_err_and c.from_residual-in_err-path.result c.from_residual-in_err-path.ensures.1 in
    rw (e.1, e.2) (goes_wrong _ _ (stops.Fault _) _ _ _ c.loop-entries.invariant.goes_on
    (rw c.in_err-path.ensures.exact refl))

pub returns-in_err-take_uleb : goal.returns-in_err-take_uleb
returns-in_err-take_uleb c =
    let e = err_from_is_err_and c.from_residual-in_err-take_uleb.result c.from_residual-in_err-take_uleb.ensures.1 in
    let files : c.args.directories ≡ Some c.in-Some-directories.count =
    sym c.loop-entries.invariant.same ∙ c.in-Some-directories.is in
    rw (e.1, e.2) (goes_wrong _ _ (stops.Fault _) _ _ _ c.loop-entries.invariant.goes_on
    (rw (
      rw c.in-Some.is at c.in_ok-path.ensures.exact,
      files,
      c.in_err-take_uleb.ensures.exact,
    ) refl))

pub returns-in_err-entry : goal.returns-in_err-entry
returns-in_err-entry c =
    let e = err_from_is_err_and c.from_residual-in_err-entry.result c.from_residual-in_err-entry.ensures.1 in
    let files : c.args.directories ≡ Some c.in-Some-directories.count =
    sym c.loop-entries.invariant.same ∙ c.in-Some-directories.is in
    rw (e.1, e.2) (goes_wrong _ _ (stops.Fault _) _ _ _ c.loop-entries.invariant.goes_on
    (rw (
      rw c.in-Some.is at c.in_ok-path.ensures.exact,
      files,
      c.in_ok-take_uleb.ensures.exact,
      c.in_err-entry.ensures c.take_uleb.new.bytes.now,
    ) refl))

pub returns-in_err-_time : goal.returns-in_err-_time
returns-in_err-_time c =
    let e = err_from_is_err_and c.from_residual-in_err-_time.result c.from_residual-in_err-_time.ensures.1 in
    let files : c.args.directories ≡ Some c.in-Some-directories.count =
    sym c.loop-entries.invariant.same ∙ c.in-Some-directories.is in
    rw (e.1, e.2) (goes_wrong _ _ (stops.Fault _) _ _ _ c.loop-entries.invariant.goes_on
    (rw (
      rw c.in-Some.is at c.in_ok-path.ensures.exact,
      files,
      c.in_ok-take_uleb.ensures.exact,
      c.in_ok-entry.ensures c.take_uleb.new.bytes.now,
      c.in_err-_time.ensures.exact,
    ) refl))

pub returns-in_err-_size : goal.returns-in_err-_size
returns-in_err-_size c =
    let e = err_from_is_err_and c.from_residual-in_err-_size.result c.from_residual-in_err-_size.ensures.1 in
    let files : c.args.directories ≡ Some c.in-Some-directories.count =
    sym c.loop-entries.invariant.same ∙ c.in-Some-directories.is in
    rw (e.1, e.2) (goes_wrong _ _ (stops.Fault _) _ _ _ c.loop-entries.invariant.goes_on
    (rw (
      rw c.in-Some.is at c.in_ok-path.ensures.exact,
      files,
      c.in_ok-take_uleb.ensures.exact,
      c.in_ok-entry.ensures c.take_uleb.new.bytes.now,
      c.in_ok-_time.ensures.exact,
      c.in_err-_size.ensures.exact,
    ) refl))

pub returns : goal.returns
returns c =
    goes_to_end _ _ _ _ _ _ c.loop-entries.invariant.goes_on (rw (c.in_ok-path.ensures.exact, c.in_default.is) refl)

pub loop-entries-preserved : goal.loop-entries-preserved
loop-entries-preserved c = elim c.match-directories.branch [
  | in-Some-directories+in_ok-take_uleb+in_ok-entry+in_ok-_time+in_ok-_size w ↦
      let files : c.args.directories ≡ Some w.in-Some-directories.count =
      sym c.loop-entries.invariant.same ∙ w.in-Some-directories.is in
      record {
        same = w.directories-is ∙ sym files;
        goes_on =
            rw (c.in_ok-push-2.ensures.items, map-append, w.entry-is, w.bytes-is)
            (goes_further _ _ _ _ _ _ _ c.loop-entries.invariant.goes_on
            (rw (
              rw c.in-Some.is at c.in_ok-path.ensures.exact,
              files,
              w.in_ok-take_uleb.ensures.exact,
              w.in_ok-entry.ensures w.take_uleb.new.bytes.now,
              w.in_ok-_time.ensures.exact,
              w.in_ok-_size.ensures.exact,
            ) refl)
            (omega (
              arith,
              c.in_ok-path.ensures.shorter,
              w.in_ok-take_uleb.ensures.shorter,
              w.in_ok-_time.ensures.shorter,
              w.in_ok-_size.ensures.shorter,
            )));
      }
  | in_default-directories w ↦
      let alone : c.args.directories ≡ None = sym c.loop-entries.invariant.same ∙ w.in_default-directories.is in
      record {
        same = w.directories-is ∙ c.loop-entries.invariant.same;
        goes_on =
            rw (c.in_ok-push-2.ensures.items, map-append, w.entry-is, w.bytes-is)
            (goes_further _ _ _ _ _ _ _ c.loop-entries.invariant.goes_on
            (rw (rw c.in-Some.is at c.in_ok-path.ensures.exact, alone) refl) c.in_ok-path.ensures.shorter);
      }
]
