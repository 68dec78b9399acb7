use Rattle.std.proofs.Common.{◌≡◌, ◌≤◌, drop}
use Rattle.dw_image.specs.Images.{entry_count}
use Rattle.dwv_c.specs.Tables.{values_before}
use Rattle.dwv_c.specs.TableState.{AreBefore}
use Rattle.dwv_c.proofs.values.Resolver.put_entries.Given as goal

abbrev pub invariant-loop-number : goal.invariant-loop-number
invariant-loop-number l = record {
  cursor : l.cursor.entries.now ≡ l.self.image.now.entries;
  at : l.at ≡ values_before l.self.image.now l.number;
  rows : AreBefore l.self.holders l.self.image.now l.number l.at l.entries l.values;
  other_entries : drop l.number l.entries ≡ drop l.number l.fn.entries;
  other_values : drop l.at l.values ≡ drop l.at l.fn.values;
  within : l.number ≤ entry_count l.self.image.now;
}
