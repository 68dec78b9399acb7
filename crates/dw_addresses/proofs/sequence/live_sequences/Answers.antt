use Rattle.std.proofs.Common.{◌∙◌, sym, arith}
use Rattle.dw_addresses.proofs.CutLemmas.{all_before, dead_more, live_more, open_more}
use Rattle.dw_addresses.proofs.sequence.live_sequences.Goals as goal
use Rattle.dw_addresses.proofs.sequence.live_sequences.Goals.{then-rows-end, then-is_live+in_ok-push, else-is_live}
use Rattle.dw_addresses.proofs.sequence.live_sequences.Goals.{else-rows-end}

pub loop-end-preserved : goal.loop-end-preserved
loop-end-preserved c =
    let code = c.args.code.now in
    let rows = c.args.rows.now in
    let found = c.loop-end.found.items in
    let first = c.loop-end.first in
    let n = c.loop-end.end in
    elim c.if-rows-end.branch [
      | then-rows-end w ↦ elim w.if-is_live.branch [
        | then-is_live+in_ok-push w' ↦
            rw (w.found-is, w'.found-is, w.first-is, w'.in_ok-push.ensures.items)
            (live_more code rows found first n c.loop-end.invariant (omega arith) _ w.if-rows-end.true
            (sym w.is_live.ensures ∙ w'.if-is_live.true))
        | else-is_live w' ↦
            rw (w.found-is, w'.found-is, w.first-is)
            (dead_more code rows found first n c.loop-end.invariant (omega arith) _ w.if-rows-end.true
            (sym w.is_live.ensures ∙ w'.if-is_live.false))
      ]
      | else-rows-end w ↦
          rw (w.found-is, w.first-is)
          (open_more code rows found first n c.loop-end.invariant (omega arith) _ w.if-rows-end.false)
    ]

pub returns : goal.returns
returns c =
    all_before c.args.code.now c.args.rows.now c.loop-end.found.items c.loop-end.first c.loop-end.end
    c.loop-end.invariant (omega arith)
