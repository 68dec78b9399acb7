use Rattle.std.proofs.Common.{rules, ◌<◌, arith}
use Rattle.dw_image.specs.Images.{entry_count, units_in}
use Rattle.dwv_c.proofs.CountLemmas.{counted_next, sum_fits}
use Rattle.dwv_c.proofs.table.count_values.Goals as goal

pub overflow_add-count : goal.overflow_add-count
overflow_add-count c = search (rules, sum_fits)

pub loop-number-preserved : goal.loop-number-preserved
unfolding units_in
loop-number-preserved c =
    let below : c.loop-number.number < entry_count c.args.image.now = search rules in
    let few : c.count_entry.result < 4294967296 = search rules in (
      counted_next c.args.image.now c.loop-number.number c.id.result c.loop-number.count c.count_entry.result below
          c.id.ensures
          c.count_entry.ensures c.loop-number.invariant.0,
      omega (arith, below),
      omega (arith, c.loop-number.invariant.2, few),
    )
