use Rattle.std.proofs.Common.{rules, ◌≡◌, ◌<◌, ◌+◌, ◌∙◌, length, min, replicate, arith, sym, length-set}
use Rattle.std.proofs.lemmas.List.{length-replicate, length_push}
use Rattle.dw_types.specs.declared.walk.Mark.TheVariants.{Fresh, Ranked}
use Rattle.dw_types.proofs.EndLemmas.{begun-leaf, begun-none, begun-other, more-firsts, no-firsts, no-steps, some-steps}
use Rattle.dw_types.proofs.walk.Walk.new.Goals as goal
use Rattle.dw_types.proofs.walk.Walk.new.Goals.{then-node-small, else-node-small, then-not-get+in_ok-push, else-not-get}

pub loop-from-init : goal.loop-from-init
loop-from-init g c =
    let graph = g.G.StepGraph.graph c.args.graph.now in
    let nodes = c.nodes-nodes.result in
    let small = c.min-small.result in
    let firsts : c.in_ok-firsts.firsts.items ≡ replicate small 0 = search rules in
    let marks : c.in_ok-marks.marks.items ≡ replicate nodes Fresh = search rules in
    let none : min 0 small ≡ 0 = omega arith in
    rw (firsts, marks, c.in_ok-leaves.ensures.items, none) record {
      firsts = no-firsts graph small;
      long = length-replicate small 0;
      marks = length-replicate nodes Fresh;
      room = c.in_ok-leaves.ensures.capacity;
      few = omega arith;
      begun =
          rw c.nodes-nodes.ensures
          (begun-none graph (omega (arith, c.nodes-nodes.ensures, c.nodes-nodes.type_inv)));
    }

pub loop-leaf-preserved : goal.loop-leaf-preserved
loop-leaf-preserved g c =
    let graph = g.G.StepGraph.graph c.args.graph.now in
    let marks = c.loop-leaf.marks.items in
    let leaves = c.loop-leaf.leaves.items in
    let leaf = c.loop-leaf.leaf in
    let h = c.loop-leaf.invariant in
    let inside : leaf < length graph = omega (arith, c.nodes-nodes.ensures) in
    rw c.push_reserved.ensures.items record {
      marks = length-set marks leaf Ranked ∙ h.marks;
      room = rw c.push_reserved.ensures.capacity h.room;
      few = let few = h.few in let long = length_push leaves leaf in omega arith;
      begun =
          begun-leaf graph marks leaves leaf h.begun inside
          (no-steps graph c.args.with_steps.now c.requires leaf inside
          (c.next-node.ensures.none leaf c.loop-leaf.auto.leaf (omega arith)));
    }

pub loop-from-preserved : goal.loop-from-preserved
loop-from-preserved g c =
    let graph = g.G.StepGraph.graph c.args.graph.now in
    let node = c.next-node.result in
    let h = c.loop-leaf.invariant in
    let at : c.loop-leaf.leaf ≡ node = omega (arith, c.loop-leaf.auto.leaf-end c.next-node.ensures.within.0) in
    elim c.if-node-small.branch [
      | then-node-small w ↦
          let inside : node < length graph = omega (arith, c.nodes-nodes.ensures) in
          let one : min (node + 1) c.min-small.result ≡ node + 1 = omega arith in
          rw (w.firsts-is, one) record {
            firsts =
                more-firsts graph c.loop-from.firsts.items node w.first_of.result
                (let long = c.loop-from.invariant.long in omega arith) c.loop-from.invariant.firsts w.first_of.ensures;
            long = length-set c.loop-from.firsts.items node w.first_of.result ∙ c.loop-from.invariant.long;
            marks = h.marks;
            room = h.room;
            few = let few = h.few in omega arith;
            begun =
                begun-other graph c.loop-leaf.marks.items c.loop-leaf.leaves.items node (rw at at h.begun)
                (λ none. let some = some-steps graph c.args.with_steps.now c.requires node inside
                (c.next-node.ensures.set w.if-node-small.true) in omega arith);
          }
      | else-node-small w ↦
          let all : min (node + 1) c.min-small.result ≡ c.loop-leaf.leaf = omega arith in
          rw (w.firsts-is, all) record {
            firsts = c.loop-from.invariant.firsts;
            long = c.loop-from.invariant.long;
            marks = h.marks;
            room = h.room;
            few = let few = h.few in omega arith;
            begun = h.begun;
          }
    ]

pub loop-large-preserved : goal.loop-large-preserved
loop-large-preserved g c =
    let graph = g.G.StepGraph.graph c.args.graph.now in
    let marks = c.loop-large.marks.items in
    let large = c.loop-large.large in
    let h = c.loop-large.invariant in
    let inside : large < length graph = omega (arith, c.nodes-nodes.ensures) in
    elim c.if-not-get.branch [
      | then-not-get+in_ok-push w ↦ rw (w.marks-is, w.by_rank-is, w.in_ok-push.ensures) record {
        marks = length-set marks large Ranked ∙ h.marks;
        begun =
            begun-leaf graph marks c.loop-large.by_rank large h.begun inside
            (no-steps graph c.args.with_steps.now c.requires large inside (sym c.get.ensures ∙ w.if-not-get.true));
      }
      | else-not-get w ↦ rw (w.marks-is, w.by_rank-is) record {
        marks = h.marks;
        begun =
            begun-other graph marks c.loop-large.by_rank large h.begun
            (λ none. let some = some-steps graph c.args.with_steps.now c.requires large inside
            (sym c.get.ensures ∙ w.if-not-get.false) in omega arith);
      }
    ]
