use Rattle.std.proofs.Common.{rules, arith}
use Rattle.dw_links.proofs.UnitToAll.{more_below, first_here, none_fails, unit_below, FailsByText}
use Rattle.dw_links.proofs.strings.check_strings.Goals as goal

pub keep_texts-requires-clause-next : goal.keep_texts-requires-clause-next
keep_texts-requires-clause-next c = search (rules, unit_below)

pub returns-in-Err-clause-fault : goal.returns-in-Err-clause-fault
returns-in-Err-clause-fault c = record {
  holds =
      rw c.into_fault.ensures.holds (first_here c.args.entries.now (FailsByText c.args.entries.now)
      c.loop-number.number c.id-id.result c.id-id.ensures c.loop-number.invariant.passed (omega arith) c.in-Err.broken
      c.in-Err.ensures.err);
  cycle = c.into_fault.ensures.cycle;
}

pub loop-number-preserved : goal.loop-number-preserved
loop-number-preserved c = record {
  texts = c.keep_texts.ensures.texts;
  passed =
      more_below c.args.entries.now (FailsByText c.args.entries.now) c.loop-number.number c.id-id.result
      c.id-id.ensures c.loop-number.invariant.passed (omega arith) c.in_default.ensures.ok;
}

pub returns-clause-ok : goal.returns-clause-ok
returns-clause-ok c =
    none_fails c.args.entries.now (FailsByText c.args.entries.now) c.loop-number.number (omega arith)
    c.loop-number.invariant.passed
