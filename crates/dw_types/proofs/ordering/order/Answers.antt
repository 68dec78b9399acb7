use Rattle.std.proofs.Common.{◌≢◌, ℕ, ◌+◌, ◌<◌, below_more, length, arith, ◌∙◌}
use Rattle.dw_types.specs.declared.walk.Mark.TheVariants.{Fresh}
use Rattle.dw_types.specs.WalkStates.{mark_in}
use Rattle.dw_types.proofs.CycleLemmas.{no_cycle-from_falls}
use Rattle.dw_types.proofs.EndLemmas.{leaves-kept, on-stack, order-at_end, others-kept, taken-more, taken-on}
use Rattle.dw_types.proofs.ordering.order.Goals as goal
use Rattle.dw_types.proofs.ordering.order.Goals.{in-Fresh+in_ok-to+in_default-2, in_default}

pub cycle_to-requires-clause-on_stack : goal.cycle_to-requires-clause-on_stack
cycle_to-requires-clause-on_stack g c =
    let at = rw c.in-Some.is at c.in_ok-to.ensures.comes in
    rw c.stack.ensures (on-stack (g.G.StepGraph.graph c.args.graph.now) _ c.in-Some.to at.1
    (c.in_ok-to.ensures.gave_up ∙ c.loop-start.invariant.gave_up))

pub cycle_to-requires-clause-once : goal.cycle_to-requires-clause-once
cycle_to-requires-clause-once g c =
    let at = rw c.in-Some.is at c.in_ok-to.ensures.comes in rw c.stack.ensures at.1.coherent.stack.once

pub cycle_to-requires-clause-steps : goal.cycle_to-requires-clause-steps
cycle_to-requires-clause-steps g c =
    let at = rw c.in-Some.is at c.in_ok-to.ensures.comes in rw c.stack.ensures at.1.coherent.stack.steps

pub cycle_to-requires-clause-closes : goal.cycle_to-requires-clause-closes
cycle_to-requires-clause-closes g c =
    let at = rw c.in-Some.is at c.in_ok-to.ensures.comes in rw c.stack.ensures at.1.closes

pub loop-start-preserved : goal.loop-start-preserved
loop-start-preserved g c =
    let graph = g.G.StepGraph.graph c.args.graph.now in
    let flags = c.in_ok-with_steps.with_steps in
    let it = c.loop-start.walk in
    let start = c.loop-start.start in
    let next = c.next-start-in-loop-start in
    let h = c.loop-start.invariant in
    let inside : start < length it.marks = (let long = h.kept.walk.coherent.places.marks in
    let test = c.loop-start-test.true in let nodes = c.nodes-nodes.ensures in omega arith) in
    elim c.match-mark.branch [
      | in-Fresh+in_ok-to+in_default-2 w ↦
          let new = w.walk_from.new.walk in
          let walked = w.in_ok-to.ensures in
          let comes = rw w.in_default-2.is at walked.comes in
          let others = others-kept graph it.marks new.marks start inside walked.taken h.others in
          rw w.walk-is record {
            kept = comes.0;
            empty = comes.1;
            taken =
                taken-on graph flags new.marks (start + 1) next.result c.in_ok-with_steps.ensures others
                (omega (arith, next.ensures.within, c.nodes-nodes.ensures)) next.ensures.none
                (taken-more it.marks new.marks start inside walked.taken h.taken);
            others = others;
            first =
                leaves-kept graph it.by_rank new.by_rank c.count_ranked-leaves.result h.first walked.ranks;
            gave_up = walked.gave_up ∙ h.gave_up;
          }
      | in_default w ↦
          let before : (node : ℕ) → node < start + 1 → mark_in it.marks node ≢ Fresh = below_more _ _ h.taken
          (λ fresh. w.in_default.not-Fresh (c.mark.ensures ∙ fresh)) in
          rw w.walk-is record {
            kept = h.kept;
            empty = h.empty;
            taken =
                taken-on graph flags it.marks (start + 1) next.result c.in_ok-with_steps.ensures h.others
                (omega (arith, next.ensures.within, c.nodes-nodes.ensures)) next.ensures.none before;
            others = h.others;
            first = h.first;
            gave_up = h.gave_up;
          }
    ]

pub returns-clause-ok : goal.returns-clause-ok
returns-clause-ok g c =
    let over = rw c.nodes-nodes.ensures at c.loop-start-test.false in
    let h = c.loop-start.invariant in
    rw c.into_order.ensures (order-at_end (g.G.StepGraph.graph c.args.graph.now) c.loop-start.walk
    c.count_ranked-leaves.result h.kept h.empty h.gave_up (λ node below. h.taken node (omega arith)) h.first)

pub returns-clause-no_cycle : goal.returns-clause-no_cycle
returns-clause-no_cycle g c =
    let graph = g.G.StepGraph.graph c.args.graph.now in
    let over = rw c.nodes-nodes.ensures at c.loop-start-test.false in
    let h = c.loop-start.invariant in
    let ended = order-at_end graph c.loop-start.walk c.count_ranked-leaves.result h.kept h.empty h.gave_up
    (λ node below. h.taken node (omega arith)) h.first in
    no_cycle-from_falls graph c.loop-start.walk.ranks ended.falls
