use Rattle.std.proofs.Common.{◌≢◌, ℕ, ◌+◌, ◌<◌, below_more, length, arith, refl, ◌∙◌}
use Rattle.dw_types.specs.declared.walk.Mark.TheVariants.{Fresh}
use Rattle.dw_types.specs.WalkStates.{counted, mark_in}
use Rattle.dw_types.proofs.EndLemmas.{clear-at_end, others-kept, taken-more, taken-on, without_stack-kept}
use Rattle.dw_types.proofs.ordering.clear_nodes.Goals as goal
use Rattle.dw_types.proofs.ordering.clear_nodes.Goals.{in-Fresh+in_ok-walk_from+in-Some, in-Fresh+in_ok-walk_from+in_default-2, in_default}

pub loop-node-preserved : goal.loop-node-preserved
loop-node-preserved g c =
    let graph = g.G.StepGraph.graph c.args.graph.now in
    let flags = c.in_ok-with_steps.with_steps in
    let it = c.loop-node.walk in
    let start = c.loop-node.node in
    let next = c.next-node-in-loop-node in
    let h = c.loop-node.invariant in
    let inside : start < length it.marks = (let long = h.kept.walk.coherent.places.marks in
    let test = c.loop-node-test.true in let nodes = c.nodes-nodes.ensures in omega arith) in
    elim c.match-mark.branch [
      | in-Fresh+in_ok-walk_from+in-Some w ↦
          let new = w.walk_from.new.walk in
          let walked = w.in_ok-walk_from.ensures in
          let others = others-kept graph it.marks new.marks start inside walked.taken h.others in
          rw (w.walk-is, w.give_up.ensures) record {
            kept = without_stack-kept graph new _ (rw w.in-Some.is at walked.comes);
            empty = refl;
            taken =
                taken-on graph flags new.marks (start + 1) next.result c.in_ok-with_steps.ensures others
                (omega (arith, next.ensures.within, c.nodes-nodes.ensures)) next.ensures.none
                (taken-more it.marks new.marks start inside walked.taken h.taken);
            others = others;
          }
      | in-Fresh+in_ok-walk_from+in_default-2 w ↦
          let new = w.walk_from.new.walk in
          let walked = w.in_ok-walk_from.ensures in
          let comes = rw w.in_default-2.is at walked.comes in
          let others = others-kept graph it.marks new.marks start inside walked.taken h.others in
          rw w.walk-is record {
            kept = comes.0;
            empty = comes.1;
            taken =
                taken-on graph flags new.marks (start + 1) next.result c.in_ok-with_steps.ensures others
                (omega (arith, next.ensures.within, c.nodes-nodes.ensures)) next.ensures.none
                (taken-more it.marks new.marks start inside walked.taken h.taken);
            others = others;
          }
      | in_default w ↦
          let before : (node : ℕ) → node < start + 1 → mark_in it.marks node ≢ Fresh = below_more _ _ h.taken
          (λ fresh. w.in_default.not-Fresh (c.mark.ensures ∙ fresh)) in
          rw w.walk-is record {
            kept = h.kept;
            empty = h.empty;
            taken =
                taken-on graph flags it.marks (start + 1) next.result c.in_ok-with_steps.ensures h.others
                (omega (arith, next.ensures.within, c.nodes-nodes.ensures)) next.ensures.none before;
            others = h.others;
          }
    ]

pub returns : goal.returns
returns g c =
    let over = rw c.nodes-nodes.ensures at c.loop-node-test.false in
    let it = c.loop-node.walk in
    let h = c.loop-node.invariant in
    rw c.into_ranked.ensures (clear-at_end (g.G.StepGraph.graph c.args.graph.now) (counted it h.kept.next) h.kept.walk
    h.empty (λ node below. h.taken node (omega arith)))
