use Rattle.std.proofs.Common.{rules}
use Rattle.std.proofs.Common.{◌<◌, length, arith}
use Rattle.dw_types.specs.PackingLaws.{length-cut, cut-step}
use Rattle.dw_types.proofs.graph.PackedStepGraph.step.Goals as goal

pub begin-requires : goal.begin-requires
begin-requires c = let p = c.args.self.now in let all = length-cut p.steps 0 p.ends in omega (arith, c.requires.node_in)

pub get_behind-requires : goal.get_behind-requires
get_behind-requires c =
    let p = c.args.self.now in
    let all = length-cut p.steps 0 p.ends in
    let below : c.args.node < length p.ends = omega (arith, c.requires.node_in) in
    let place = cut-step p.steps p.ends c.args.node c.args.k p.in_order below c.requires.step_in in
    rw c.begin.ensures place.0

pub returns : goal.returns
returns c = search (rules, length-cut, cut-step)
