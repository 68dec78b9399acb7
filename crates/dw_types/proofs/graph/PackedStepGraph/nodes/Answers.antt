use Rattle.std.proofs.Common.{rules}
use Rattle.dw_types.specs.PackingLaws.{length-cut}
use Rattle.dw_types.proofs.graph.PackedStepGraph.nodes.Goals as goal

pub returns : goal.returns
returns c = let p = c.args.self.now in rw (length-cut p.steps 0 p.ends) (search rules)
