use Rattle.dwv_c.proofs.MeaningLemmas.{unit_found}
use Rattle.dwv_c.proofs.TableRowLemmas.{entries_more}
use Rattle.dwv_c.proofs.values.Resolver.put_entry.Goals as goal

pub put_values-next-requires-clause-unit : goal.put_values-next-requires-clause-unit
put_values-next-requires-clause-unit c =
    unit_found c.args.self.now.image.now c.args.cursor.now.entries.now _ c.args.number c.id-id.result
    c.unit-unit.result c.requires.cursor c.at.ensures.found c.requires.number c.id-id.ensures c.unit-unit.ensures

pub entry_row-requires-clause-unit : goal.entry_row-requires-clause-unit
entry_row-requires-clause-unit c =
    unit_found c.args.self.now.image.now c.args.cursor.now.entries.now _ c.args.number c.id-id.result
    c.unit-unit.result c.requires.cursor c.at.ensures.found c.requires.number c.id-id.ensures c.unit-unit.ensures

pub returns-clause-rows : goal.returns-clause-rows
returns-clause-rows c = record {
  entries =
      entries_more c.args.self.now.holders c.args.self.now.image.now c.args.number c.args.entries.now
      c.entry_row.result c.requires.room c.requires.before.entries (rw c.id-id.ensures at c.entry_row.ensures);
  values = c.put_values-next.ensures.rows;
}
