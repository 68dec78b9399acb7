use Rattle.std.proofs.Common.{[], ◌∷◌, arith, refl, ap, length-append}
use Rattle.dw_forms.specs.Abbrev.{table_view}
use Rattle.dw_forms.specs.Faults.{fault_at}
use Rattle.dw_forms.specs.Formats.{as_other}
use Rattle.dw_forms.proofs.DeclLaws.{then_fails, fails_at}
use Rattle.dw_forms.proofs.SpelledLists.{goes_to_end, goes_further, goes_wrong}
use Rattle.dw_forms.proofs.abbrev_reader.table.Goals as goal

pub returns-in-Err-clause-exact : goal.returns-in-Err-clause-exact
returns-in-Err-clause-exact c =
    rw c.at.ensures (then_fails _ _ (λ x. x.0)
    (goes_wrong _ _ _ _ _ _ c.loop-decl.invariant.goes_on (fails_at _ c.in-Err.error _ c.in-Err.ensures.exact)))

pub returns-in-Ok-None-clause-exact : goal.returns-in-Ok-None-clause-exact
returns-in-Ok-None-clause-exact c =
    rw (goes_to_end _ _ _ _ _ _ c.loop-decl.invariant.goes_on (ap (as_other (fault_at _))
    (rw c.in-Ok-None.field-0-is at c.in-Ok-None.ensures.exact))) refl

pub loop-decl-preserved : goal.loop-decl-preserved
loop-decl-preserved c = record {
  fewer =
      rw c.in_ok-push-in-Ok-Some.ensures (omega (
        arith,
        length-append c.loop-decl.table (table_view c.in-Ok-Some.decl ∷ []),
        c.in-Ok-Some.ensures.shorter,
        c.loop-decl.invariant.fewer,
      ));
  goes_on = rw c.in_ok-push-in-Ok-Some.ensures
      (goes_further _ _ _ _ _ (table_view c.in-Ok-Some.decl) _ c.loop-decl.invariant.goes_on
      (ap (as_other (fault_at _)) (rw c.in-Ok-Some.field-0-is at c.in-Ok-Some.ensures.exact))
      c.in-Ok-Some.ensures.shorter);
}
