use Rattle.std.proofs.Common.{◌≡◌, ◌*◌, ◌≤◌}
use Rattle.dw_image.specs.Images.{entry_count}
use Rattle.dwv_c.specs.Tables.{values_before}
use Rattle.dwv_c.proofs.table.count_values.Given as goal

abbrev pub invariant-loop-number : goal.invariant-loop-number
invariant-loop-number l =
    (l.count ≡ values_before l.image l.number) × (l.number ≤ entry_count l.image) × (l.count ≤ l.number * 4294967295)
