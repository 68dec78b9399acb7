use Rattle.std.proofs.Common.{rules, ◌≡◌, ◌<◌, ◌-◌, length, suc, slice_index, arith, sym}
use Rattle.std.proofs.lemmas.List.{get_or_read}
use Rattle.dw_types.proofs.firsts.WithFirstsStepGraph.step.Goals as goal

pub returns-then-first-gt0 : goal.returns-then-first-gt0
returns-then-first-gt0 g c =
    let firsts = c.args.self.now.firsts.items in
    let first = c.index-first.result.now in
    let long : c.len.result ≡ length firsts = search rules in
    let inside : c.args.node < length firsts = rw (← long) c.if-node-len.true in
    let here = get_or_read firsts c.args.node first inside c.index-first.ensures 0 in
    let is : slice_index firsts c.args.node ≡ suc (first - 1) = (let some = c.if-first-gt0.true in omega arith) in
    rw c.if-k-eq0.true (sym (c.args.self.now.firsts_are c.args.node (first - 1) is))
