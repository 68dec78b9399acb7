use Rattle.std.proofs.Common.{rules, inr}
use Rattle.std.proofs.lemmas.Result.{err_from_is_err_and}
use Rattle.dw_links.proofs.LinkedEntries.{first_by_header}
use Rattle.dw_links.proofs.UnitToAll.{if_fault}
use Rattle.dw_links.proofs.links.link.Goals as goal

pub returns-in_err-check_classes-clause-fault : goal.returns-in_err-check_classes-clause-fault
returns-in_err-check_classes-clause-fault c = search (rules, err_from_is_err_and)

pub strings_first-requires : goal.strings_first-requires
strings_first-requires c = search (rules, first_by_header)

pub returns-in-Err-Fault-clause-fault : goal.returns-in-Err-Fault-clause-fault
returns-in-Err-Fault-clause-fault c = record {
  holds = inr (c.in_ok-check_classes.ensures.ok, c.strings_first.ensures.holds);
  cycle = c.strings_first.ensures.cycle;
}

pub returns-in_err-tables-clause-fault : goal.returns-in_err-tables-clause-fault
returns-in_err-tables-clause-fault c =
    let p = err_from_is_err_and c.from_residual-in_err-tables.result c.from_residual-in_err-tables.ensures.1 in
    rw (p.1, p.2) (if_fault (λ broken first. inr (c.in_ok-check_classes.ensures.ok, first)) c.in_err-tables.field-0.0
    c.in_err-tables.ensures.fault)
