use Rattle.std.proofs.Common.{rules, ap, arith}
use Rattle.dw_entries.specs.Walk.{levels_of}
use Rattle.dw_forms.specs.WithBytes.{read_fails}
use Rattle.dw_entries.proofs.AlongLaws.{along_few, along_end, along_next, first_fault, first_turn, turn_fault, turn_shorter}
use Rattle.dw_entries.proofs.tree.walk_tree.Goals as goal

pub returns-in-Err-clause-fault : goal.returns-in-Err-clause-fault
returns-in-Err-clause-fault c = search (rules, first_fault)

pub returns-in-Err-Fault-clause-fault : goal.returns-in-Err-Fault-clause-fault
returns-in-Err-Fault-clause-fault c =
    turn_fault c.args.unit.at c.loop-inner.records.items c.loop-inner.outer.items c.in-Some.level
    c.in-Err-Fault.failing _ c.requires.start (rw c.in-Some.is at c.loop-inner.invariant) (search (rules, read_fails))
    c.plain_fault_at-in-Err-Fault.ensures

pub loop-inner-init : goal.loop-inner-init
loop-inner-init c = rw c.new-outer.ensures.items (first_turn _ _ _ _ _ _ _ _ _ c.in-Ok.ensures c.in_ok-inner.ensures)

pub loop-inner-smaller : goal.loop-inner-smaller
loop-inner-smaller c = search (rules, turn_shorter)

pub loop-inner-preserved : goal.loop-inner-preserved
loop-inner-preserved c = search (rules, along_next)

pub returns-clause-tree : goal.returns-clause-tree
returns-clause-tree c =
    along_end c.loop-inner.invariant (ap (levels_of c.loop-inner.outer.items) c.in_default.is)

pub turn-requires-clause-few_entries : goal.turn-requires-clause-few_entries
turn-requires-clause-few_entries c =
    let few = along_few c.loop-inner.records.items c.loop-inner.outer.items c.in-Some.level
    (rw c.in-Some.is at c.loop-inner.invariant) in
    let records = few.0 in
    let start = c.requires.start in
    let fits = c.requires.fits in
    let old = c.requires.few_entries in
    omega arith

pub turn-requires-clause-few_levels : goal.turn-requires-clause-few_levels
turn-requires-clause-few_levels c =
    let few = along_few c.loop-inner.records.items c.loop-inner.outer.items c.in-Some.level
    (rw c.in-Some.is at c.loop-inner.invariant) in
    let outer = few.1 in
    let fits = c.requires.fits in
    omega arith
