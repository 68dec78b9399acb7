use Rattle.std.proofs.lemmas.Result.{err_from_is_err_and}
use Rattle.dw_units.proofs.AloneLemmas.{trees_of, refer_inside}
use Rattle.dw_units.proofs.CountLemmas.{next_of}
use Rattle.dw_units.proofs.checking.verify_next.Goals as goal

pub returns-in_err-entries-clause-fault : goal.returns-in_err-entries-clause-fault
returns-in_err-entries-clause-fault c =
    let p = err_from_is_err_and c.from_residual.result c.from_residual.ensures.1 in
    rw (p.1, p.2) (trees_of _ _ _ _ c.part-own.ensures c.in_err-entries.field-0.0 c.in_err-entries.ensures.fault)

pub returns-in-Ok : goal.returns-in-Ok
returns-in-Ok c =
    record {
      found =
          next_of _ _ _ _ c.in_ok-entries.entries c.requires
          c.part-own.ensures c.in_ok-entries.ensures.same c.in_ok-entries.ensures.only
          (rw c.if-not-have_no_type_unit.false at c.have_no_type_unit.ensures)
          (refer_inside _ _ c.in_default.not-BySignature c.elsewhere_of-elsewhere.ensures)
          _ _ c.in-Ok.ensures;
      fault = tt;
    }
