use Rattle.std.proofs.Common.{rules, ◌∙◌, refl}
use Rattle.dw_entries.proofs.UnitSteps.{read_size, read_offset, read_start, unit_taken}
use Rattle.dw_entries.proofs.scanning.take_unit.Goals as goal

pub unit_table-requires-clause-offset : goal.unit_table-requires-clause-offset
unit_table-requires-clause-offset c = search (rules, read_offset)

pub invariant_of-context-clause-is_size : goal.invariant_of-context-clause-is_size
invariant_of-context-clause-is_size c = search (rules, read_size)

pub returns-clause-unit : goal.returns-clause-unit
returns-clause-unit c =
    unit_taken _ c.args.rest.now c.in-Ok.found.0 _ c.in-Ok.ensures _ _ _ _ _ (record {
      tables = c.unit_table.new.tables;
      units = c.push.new.self;
      records = c.walk_unit.new.records;
    })
    refl (c.len.ensures ∙ c.args.kept.now.records.ok.0) c.in_ok-table.ensures.found c.in_ok-table.ensures.tables.tables
    c.in_ok-table.ensures.tables.stay c.in_ok-push.ensures.items
    (rw c.version.ensures at c.in_ok-walk_unit.ensures.tree)

pub walk_unit-requires-clause-fits : goal.walk_unit-requires-clause-fits
walk_unit-requires-clause-fits c = search (rules, read_start)
