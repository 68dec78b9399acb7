use Rattle.std.proofs.Common.{arith}
use Rattle.dw_links.specs.Classes.{ClassFails}
use Rattle.dw_links.proofs.UnitToAll.{more_below, first_here, none_fails, all_units}
use Rattle.dw_links.proofs.class.check_classes.Goals as goal

pub returns-in-Err-clause-fault : goal.returns-in-Err-clause-fault
returns-in-Err-clause-fault c = record {
  holds =
      rw c.into_fault.ensures.holds (first_here c.args.entries.now (ClassFails (all_units c.args.entries.now))
      c.loop-number.number c.id.result c.id.ensures c.loop-number.invariant (omega arith) c.in-Err.broken
      c.in-Err.ensures.err);
  cycle = c.into_fault.ensures.cycle;
}

pub loop-number-preserved : goal.loop-number-preserved
loop-number-preserved c =
    more_below c.args.entries.now (ClassFails (all_units c.args.entries.now)) c.loop-number.number c.id.result
    c.id.ensures c.loop-number.invariant (omega arith) c.in_default.ensures.ok

pub returns-clause-ok : goal.returns-clause-ok
returns-clause-ok c =
    none_fails c.args.entries.now (ClassFails (all_units c.args.entries.now)) c.loop-number.number (omega arith)
    c.loop-number.invariant
