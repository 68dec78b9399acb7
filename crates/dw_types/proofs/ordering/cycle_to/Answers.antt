use Rattle.std.proofs.Common.{drop, ◌∙◌}
use Rattle.std.proofs.lemmas.List.{take_rest}
use Rattle.dw_types.proofs.CycleLemmas.{ring-from_stack, cycle-from_ring}
use Rattle.dw_types.proofs.ordering.cycle_to.Goals as goal

pub returns : goal.returns
returns g c =
    let graph = g.G.StepGraph.graph c.args.graph.now in
    let stack = c.args.stack.now in
    let place = c.place_of.result in
    let same = c.as_slice-stack.ensures.value ∙ c.in_ok-stack.ensures in
    let ring = ring-from_stack graph stack place c.args.to (rw same at c.place_of.ensures.place_in)
    (rw same at c.place_of.ensures.found) c.requires.once c.requires.steps c.requires.closes in
    let whole = take_rest stack place in
    rw (c.in_ok-round_from.ensures, same, whole)
    (cycle-from_ring graph (drop place stack) c.place_of_least.result ring
    (rw (same, whole) at c.place_of_least.ensures.place_in) (rw (same, whole) at c.place_of_least.ensures.least))
