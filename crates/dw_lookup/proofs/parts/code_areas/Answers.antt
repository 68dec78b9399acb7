use Rattle.std.proofs.Common.{sym, subst, arith}
use Rattle.dw_lookup.proofs.PartLemmas.{code_all, code_more}
use Rattle.dw_lookup.proofs.parts.code_areas.Goals as goal

pub loop-k-preserved : goal.loop-k-preserved
loop-k-preserved c =
    code_more c.args.file.now c.loop-k.k c.loop-k.areas.items c.push_code.new.areas.items c.loop-k.invariant
    c.in_ok-push_code.ensures

pub returns : goal.returns
returns c =
    let past = c.loop-k-test.false in
    let count = c.header_count-k-end.ensures in
    code_all c.args.file.now c.loop-k.k c.loop-k.areas.items c.join.new.ranges.items (omega (arith, past, count))
    c.loop-k.invariant c.join.ensures.areas c.join.ensures.same
