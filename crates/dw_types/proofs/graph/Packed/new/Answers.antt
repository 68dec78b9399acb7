use Rattle.std.proofs.Common.{rules, ◌≡◌, ◌++◌, ◌∙◌, ◌<◌, length, ap}
use Rattle.std.proofs.lemmas.List.{take_all}
use Rattle.dw_types.specs.Graphs.{steps_of}
use Rattle.dw_types.proofs.PackingLemmas.{leads-more, packs-more, row-more}
use Rattle.dw_types.proofs.graph.Packed.new.Goals as goal

pub loop-k-preserved : goal.loop-k-preserved
loop-k-preserved g c = search (rules, row-more, leads-more)

pub loop-node-preserved : goal.loop-node-preserved
loop-node-preserved g c =
    let graph = g.G.StepGraph.graph c.args.graph.now in
    let steps = c.loop-node.steps in
    let node = c.loop-node.node in
    let row = steps_of graph node in
    let below : node < length graph = rw (← c.nodes-nodes.ensures) c.loop-node-test.true in
    let over = rw c.steps-count.ensures at c.loop-k-test.false in
    let whole : c.loop-k.steps ≡ steps ++ row = rw (← take_all c.loop-k.k row over) c.loop-k.invariant.0 in
    let more = packs-more graph steps c.loop-node.ends node below c.loop-node.invariant.0 in
    let size : length c.loop-k.steps ≡ length (steps ++ row) = ap length whole in
    let end : c.len.result ≡ length (steps ++ row) = c.len.ensures ∙ size in
    (rw (c.in_ok-push-2.ensures, whole, end) more, c.loop-k.invariant.1)
