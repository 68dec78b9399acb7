use Rattle.std.proofs.Common.{arith}
use Rattle.dwv_c.proofs.MeaningLemmas.{first_in}
use Rattle.dwv_c.proofs.table_rows.unit_row.Goals as goal

pub number_under-requires : goal.number_under-requires
number_under-requires c =
    first_in c.args.image.now c.args.number c.unit-head.result c.requires (rw c.scanned.ensures at c.unit-head.ensures)

pub overflow_sub-end : goal.overflow_sub-end
overflow_sub-end c =
    omega (arith, c.range-first.ensures.first, c.range-first.ensures.end)

pub offset_under-requires : goal.offset_under-requires
offset_under-requires c =
    first_in c.args.image.now c.args.number c.unit-head.result c.requires (rw c.scanned.ensures at c.unit-head.ensures)

pub offset_under-requires-2 : goal.offset_under-requires-2
offset_under-requires-2 c =
    first_in c.args.image.now c.args.number c.unit-head.result c.requires (rw c.scanned.ensures at c.unit-head.ensures)
