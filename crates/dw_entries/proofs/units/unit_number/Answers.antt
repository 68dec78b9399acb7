use Rattle.std.proofs.Common.{arith}
use Rattle.dw_entries.proofs.UnitRanges.{units_rise, some_before, point_within, unit_found, units_counted}
use Rattle.dw_entries.proofs.units.unit_number.Goals as goal

pub units_up_to-requires : goal.units_up_to-requires
units_up_to-requires c = rw c.deref.ensures.value (units_rise c.args.entries.now.scanned)

pub overflow_sub-result : goal.overflow_sub-result
overflow_sub-result c =
    some_before c.args.entries.now.scanned _ c.requires _ (rw c.deref.ensures.value at c.units_up_to.ensures.up_to)

pub returns-clause-within : goal.returns-clause-within
returns-clause-within c =
    let within = point_within c.args.entries.now.scanned _ c.requires _
    (rw c.deref.ensures.value at c.units_up_to.ensures.up_to)
    (omega arith) in
    omega (arith, units_counted c.args.entries.now.scanned)

pub returns-clause-number : goal.returns-clause-number
returns-clause-number c =
    unit_found c.args.entries.now.scanned _ c.requires _ (rw c.deref.ensures.value at c.units_up_to.ensures.up_to)
    (omega arith)
