use Rattle.std.proofs.Common.{sym}
use Rattle.dwv_c.proofs.table.put_rows.Goals as goal

pub returns-clause-whole : goal.returns-clause-whole
returns-clause-whole c =
    rw (sym c.in-Ok.ensures.image, sym c.in-Ok.ensures.holders) (record {
      units = rw c.in-Ok.ensures.image c.put_units.ensures.rows;
      entries = c.put_entries.ensures.rows.entries;
      values = c.put_entries.ensures.rows.values;
      other_units = rw c.in-Ok.ensures.image c.put_units.ensures.rest;
      other_entries = c.put_entries.ensures.rest.0;
      other_values = c.put_entries.ensures.rest.1;
    })
