use Rattle.std.proofs.Common.{sym, ◌∙◌, arith}
use Rattle.dw_ranges.proofs.LiveLemmas.{live_more, dead_more, none_more}
use Rattle.dw_ranges.proofs.live.keep_live.Goals as goal
use Rattle.dw_ranges.proofs.live.keep_live.Goals.{then-is_live, else-is_live+then-range, else-is_live+else-range}

pub loop-k-preserved : goal.loop-k-preserved
loop-k-preserved c =
    let xs = c.args.ranges.now.items in
    let ys = c.loop-k.ranges.items in
    let x = c.index-range.result.now in
    elim c.if-is_live.branch [
      | then-is_live w ↦
          rw (w.ranges-is, w.kept-is, w.dead-is)
          (live_more c.args.code.now xs ys c.loop-k.kept c.loop-k.k c.loop-k.dead x c.loop-k.invariant.0 (omega arith)
          c.index-range.ensures c.loop-k.invariant.1 (sym c.is_live.ensures ∙ w.if-is_live.true))
      | else-is_live+then-range w ↦
          rw (w.ranges-is, w.kept-is, w.dead-is)
          (dead_more c.args.code.now xs ys c.loop-k.kept c.loop-k.k c.loop-k.dead x c.loop-k.invariant.0 (omega arith)
          c.index-range.ensures c.loop-k.invariant.1 (sym c.is_live.ensures ∙ w.if-is_live.false) w.if-range.true)
      | else-is_live+else-range w ↦
          rw (w.ranges-is, w.kept-is, w.dead-is)
          (none_more c.args.code.now xs ys c.loop-k.kept c.loop-k.k c.loop-k.dead x c.loop-k.invariant.0 (omega arith)
          c.index-range.ensures c.loop-k.invariant.1 (sym c.is_live.ensures ∙ w.if-is_live.false) w.if-range.false)
    ]
