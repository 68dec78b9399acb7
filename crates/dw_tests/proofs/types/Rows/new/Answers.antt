use Rattle.std.proofs.Common.{◌≡◌, ◌<◌, ◌≤◌, length, arith}
use Rattle.dw_tests.proofs.PlainGraphLemmas.{leads-more, leads-all}
use Rattle.dw_tests.proofs.types.Rows.new.Goals as goal

pub loop-row-preserved : goal.loop-row-preserved
loop-row-preserved c =
    let rows = c.args.rows.items in
    let row = c.row-item.result in
    let is = rw c.deref-row-items.ensures.value at c.row-item.is in
    let below : c.loop-row.row-index < length rows = rw (← c.deref-row-items.ensures.value) c.loop-row-test.true in
    let over : length row.items ≤ c.loop-to.to-index = rw (← c.deref-to-items.ensures.value) c.loop-to-test.false in
    let here = rw c.deref-to-items.ensures.value at c.loop-to.invariant in
    leads-more rows c.loop-row.row-index c.len-nodes.result row below is c.loop-row.invariant
    (λ k in_row. here k (omega arith))

pub invariant_of-result : goal.invariant_of-result
invariant_of-result c =
    let rows = c.args.rows.items in
    let over : length rows ≤ c.loop-row.row-index = rw (← c.deref-row-items.ensures.value) c.loop-row-test.false in
    let many : c.len-nodes.result ≡ length rows = omega (arith, c.args.rows.ok.0) in
    record {
      leads = leads-all rows c.len-nodes.result many
          (λ node k below in_steps. c.loop-row.invariant node k (omega arith) in_steps);
    }
