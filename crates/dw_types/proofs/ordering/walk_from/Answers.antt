use Rattle.std.proofs.Common.{arith}
use Rattle.dw_types.specs.WalkStates.{counted}
use Rattle.dw_types.proofs.HandLemmas.{first-kept}
use Rattle.dw_types.proofs.WalkLemmas.{turns-room}
use Rattle.dw_types.proofs.ordering.walk_from.Goals as goal

pub take_up-hand-requires-clause-room : goal.take_up-hand-requires-clause-room
take_up-hand-requires-clause-room g c =
    let kept = c.requires.kept in
    let room = turns-room (g.G.StepGraph.graph c.args.graph.now) (counted c.args.walk.now kept.next) kept.walk.coherent
    in
    omega arith

pub walk_on-requires : goal.walk_on-requires
walk_on-requires g c =
    rw (c.take_up-hand.ensures.state, c.take_up-hand.ensures.hand)
    (first-kept (g.G.StepGraph.graph c.args.graph.now) c.args.walk.now c.args.start c.requires.kept c.requires.empty
    c.requires.start c.requires.fresh)
