use Rattle.std.proofs.Common.{rules}
use Rattle.std.proofs.Common.{arith}
use Rattle.dw_types.specs.PackingLaws.{length-cut, cut-length}
use Rattle.dw_types.proofs.graph.PackedStepGraph.steps.Goals as goal

pub rise-requires-clause-place : goal.rise-requires-clause-place
rise-requires-clause-place c =
    let p = c.args.self.now in let all = length-cut p.steps 0 p.ends in omega (arith, c.requires)

pub rise-requires-clause-rises : goal.rise-requires-clause-rises
rise-requires-clause-rises c =
    let p = c.args.self.now in
    let all = length-cut p.steps 0 p.ends in
    (p.in_order c.args.node (omega (arith, c.requires))).0

pub returns : goal.returns
returns c = search (rules, length-cut, cut-length)
