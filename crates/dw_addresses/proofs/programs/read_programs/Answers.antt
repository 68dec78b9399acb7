use Rattle.std.proofs.Common.{get_or, arith}
use Rattle.dw_addresses.specs.declared.named.Named.{Named}
use Rattle.dw_addresses.proofs.ReadingLemmas.{all_kept, fault_then, first_fails, one_more}
use Rattle.dw_addresses.proofs.UnitLemmas.{size_named}
use Rattle.dw_addresses.proofs.programs.read_programs.Goals as goal

pub read_next-requires-clause-size : goal.read_next-requires-clause-size
read_next-requires-clause-size c =
    let none : Named = record { at = 0; size = 0; unit = 0 } in
    let k = c.loop-one.one-index in
    size_named c.args.entries.now (get_or c.args.named.now k none) (c.requires.named.each k none (omega arith))

pub returns-in-Err-clause-fault : goal.returns-in-Err-clause-fault
returns-in-Err-clause-fault c =
    let a = c.args in
    let none : Named = record { at = 0; size = 0; unit = 0 } in
    let l = c.loop-one in
    fault_then c.in-Err.stop c.in-Err.ensures.fault (λ fault fails.
    first_fails a.sections.now a.code.now a.entries.now a.named.now c.requires.named c.requires.sorted l.one-index
    l.lines l.last l.invariant none (omega arith) fault fails)

pub loop-one-preserved : goal.loop-one-preserved
loop-one-preserved c =
    let a = c.args in
    let none : Named = record { at = 0; size = 0; unit = 0 } in
    let l = c.loop-one in
    one_more a.sections.now a.code.now a.entries.now a.named.now c.requires.named c.requires.sorted l.one-index l.lines
    l.last l.invariant none (omega arith) c.read_next.new.last c.read_next.new.lines c.in-Ok.ensures.next

pub returns-clause-found : goal.returns-clause-found
returns-clause-found c =
    let a = c.args in
    let l = c.loop-one in
    all_kept a.sections.now a.code.now a.entries.now a.named.now c.requires.named c.requires.sorted l.one-index l.lines
    l.last l.invariant (omega arith)
