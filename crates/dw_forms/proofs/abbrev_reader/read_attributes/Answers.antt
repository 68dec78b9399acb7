use Rattle.std.proofs.Common.{arith}
use Rattle.std.proofs.lemmas.Result.{err_from_is_err_and}
use Rattle.dw_forms.proofs.SpelledLists.{goes_to_end, goes_further, goes_wrong}
use Rattle.dw_forms.proofs.abbrev_reader.read_attributes.Goals as goal

pub returns-in_err-spec-clause-exact : goal.returns-in_err-spec-clause-exact
returns-in_err-spec-clause-exact c =
    let e = err_from_is_err_and c.from_residual.result c.from_residual.ensures.1 in
    rw (e.1, e.2) (goes_wrong _ _ _ _ _ _ c.loop-seen.invariant.goes_on
    (rw c.deref.ensures.value at c.in_err-spec.ensures.exact))

pub loop-seen-preserved : goal.loop-seen-preserved
loop-seen-preserved c = record {
  within = omega (arith, c.in_ok-spec.ensures.shorter);
  seen =
      rw c.in_ok-push.ensures.items (rw (c.deref.ensures.value, c.in-Some.is) at c.in_ok-spec.ensures.seen);
  goes_on = rw c.in_ok-push.ensures.items
      (goes_further _ _ _ _ _ c.in-Some.spec _ c.loop-seen.invariant.goes_on
      (rw (c.deref.ensures.value, c.in-Some.is) at c.in_ok-spec.ensures.exact) c.in_ok-spec.ensures.shorter);
}

pub returns-clause-exact : goal.returns-clause-exact
returns-clause-exact c =
    goes_to_end _ _ _ _ _ _ c.loop-seen.invariant.goes_on
    (rw (c.deref.ensures.value, c.in_default.is) at c.in_ok-spec.ensures.exact)
