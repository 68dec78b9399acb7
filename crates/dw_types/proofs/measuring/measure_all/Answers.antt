use Rattle.std.proofs.Common.{◌≡◌, ◌<◌, ◌≤◌, ℕ, None, refl, sym, ap, length, replicate, get_or, ◌∙◌, arith}
use Rattle.std.proofs.lemmas.List.{length-replicate}
use Rattle.dw_types.specs.Held.{entries_held, units_held}
use Rattle.dw_types.proofs.EndLemmas.{get_or-same}
use Rattle.dw_types.proofs.SizeRankLemmas.{all-obey, all-told, leaf-more, measured-first, next_sizes, rank-more, ranked-in}
use Rattle.dw_types.proofs.measuring.measure_all.Goals as goal
use Rattle.dw_types.proofs.measuring.measure_all.Goals.{then-leaf-count, else-leaf-count+then-rank-count, then-leaf-count-2, else-leaf-count-2}

pub loop-leaf-init : goal.loop-leaf-init
loop-leaf-init c =
    let n = c.count-count.ensures in
    let none : c.in_ok-sizes.sizes ≡ replicate (length (entries_held c.args.entries.now)) None =
    c.in_ok-sizes.ensures ∙ ap (λ (count : ℕ). replicate count None) c.count.ensures in
    let leaf : c.next-leaf.result ≤ length (entries_held c.args.entries.now) =
    rw (← n) c.next-leaf.ensures.within.1 in (
      refl,
      leaf,
      rw c.leaves-rank.ensures c.requires.order.leaves.0,
      λ inside. sym (c.requires.flags.leaves c.next-leaf.result inside)
          ∙ c.next-leaf.ensures.set (rw n inside),
      rw c.leaves-rank.ensures (measured-first (units_held c.args.entries.now) c.args.order.now c.next-leaf.result
          c.in_ok-sizes.sizes c.args.flags.now c.requires.flags leaf c.next-leaf.ensures.none
          (rw none (length-replicate _ None)) (rw none (λ k untyped. get_or-same _ k None))
          c.in_ok-asked.asked c.in_ok-asked.ensures),
    )

pub id-id-requires : goal.id-id-requires
id-id-requires c =
    rw c.loop-leaf.invariant.0 (elim c.if-leaf-count-2.branch [
      | then-leaf-count-2 w ↦ rw w.node-is (rw (← c.count-count.ensures) w.if-leaf-count-2.true)
      | else-leaf-count-2 w ↦ elim c.if-leaf-count.branch [
        | then-leaf-count v ↦ absurd (omega (arith, v.if-leaf-count.true, w.if-leaf-count-2.false))
        | else-leaf-count+then-rank-count v ↦
            rw (w.node-is, w.node-node.ensures) (ranked-in (units_held c.args.entries.now) c.args.order.now
            c.requires.order c.loop-leaf.rank (rw (← v.count-else-leaf-count.ensures) v.if-rank-count.true))
      ]
    ])

pub measure-requires-clause-places : goal.measure-requires-clause-places
measure-requires-clause-places c =
    let same : c.id-id.result ≡ c.if-leaf-count-2.node = c.id-id.ensures in
    let inside : c.if-leaf-count-2.node < length (entries_held c.args.entries.now) = elim c.if-leaf-count-2.branch [
      | then-leaf-count-2 w ↦ rw w.node-is (rw (← c.count-count.ensures) w.if-leaf-count-2.true)
      | else-leaf-count-2 w ↦ elim c.if-leaf-count.branch [
        | then-leaf-count v ↦ absurd (omega (arith, v.if-leaf-count.true, w.if-leaf-count-2.false))
        | else-leaf-count+then-rank-count v ↦
            rw (w.node-is, w.node-node.ensures) (ranked-in (units_held c.args.entries.now) c.args.order.now
            c.requires.order c.loop-leaf.rank (rw (← v.count-else-leaf-count.ensures) v.if-rank-count.true))
      ]
    ] in
    rw (c.loop-leaf.invariant.0, same) record { node_in = inside; long = c.loop-leaf.invariant.4.long }

pub loop-leaf-preserved-then-leaf-count-3 : goal.loop-leaf-preserved-then-leaf-count-3
loop-leaf-preserved-then-leaf-count-3 c =
    let us = units_held c.args.entries.now in
    let leaf = c.loop-leaf.leaf in
    let sizes = c.loop-leaf.sizes in
    let inside : leaf < length (entries_held c.args.entries.now) =
    rw (← c.count-count.ensures) c.if-leaf-count-3.true in
    let node : c.id-id.result ≡ leaf = c.id-id.ensures ∙ elim c.if-leaf-count-2.branch [
      | then-leaf-count-2 w ↦ w.node-is
      | else-leaf-count-2 w ↦ absurd (omega (arith, c.if-leaf-count-3.true, w.if-leaf-count-2.false))
    ] in
    let measured = c.loop-leaf.invariant.4 in
    let size : c.measure.new.sizes
    ≡ next_sizes us sizes c.loop-leaf.asked c.measure.new.asked leaf inside measured.long =
    rw (c.loop-leaf.invariant.0, node) at c.in_ok-measure.ensures.size in
    let set = rw (c.loop-leaf.invariant.0, node) at c.in_ok-measure.ensures.asked in
    let end : c.next-next.result ≤ length (entries_held c.args.entries.now) =
    rw (← c.count-count.ensures) c.next-next.ensures.within.1 in
    rw size (
      c.in_ok-measure.ensures.same ∙ c.loop-leaf.invariant.0,
      end,
      c.loop-leaf.invariant.2,
      λ more. sym (c.requires.flags.leaves c.next-next.result more)
          ∙ c.next-next.ensures.set (rw c.count-count.ensures more),
      leaf-more us c.args.order.now leaf c.loop-leaf.rank sizes c.loop-leaf.asked c.measure.new.asked measured
          (rw c.in_ok-measure.ensures.room measured.room) inside set
          (c.loop-leaf.invariant.3 inside) c.next-next.result
          (λ k low below. sym (c.requires.flags.leaves k (omega arith)) ∙ c.next-next.ensures.none k low below),
    )

pub loop-leaf-preserved : goal.loop-leaf-preserved
loop-leaf-preserved c =
    let us = units_held c.args.entries.now in
    let order = c.args.order.now in
    let rank = c.loop-leaf.rank in
    let sizes = c.loop-leaf.sizes in
    let over : length (entries_held c.args.entries.now) ≤ c.loop-leaf.leaf =
    rw (← c.count-count.ensures) (omega (arith, c.if-leaf-count-3.false)) in
    let below : rank < length order.by_rank = elim c.if-leaf-count.branch [
      | then-leaf-count v ↦ absurd (omega (arith, v.if-leaf-count.true, c.if-leaf-count-3.false))
      | else-leaf-count+then-rank-count v ↦ rw (← v.count-else-leaf-count.ensures) v.if-rank-count.true
    ] in
    let inside = ranked-in us order c.requires.order rank below in
    let node : c.id-id.result ≡ get_or order.by_rank rank 0 = c.id-id.ensures ∙ elim c.if-leaf-count-2.branch [
      | then-leaf-count-2 w ↦ absurd (omega (arith, c.if-leaf-count-3.false, w.if-leaf-count-2.true))
      | else-leaf-count-2 w ↦ w.node-is ∙ w.node-node.ensures
    ] in
    let measured = c.loop-leaf.invariant.4 in
    let size : c.measure.new.sizes
    ≡ next_sizes us sizes c.loop-leaf.asked c.measure.new.asked (get_or order.by_rank rank 0) inside measured.long =
    rw (c.loop-leaf.invariant.0, node) at c.in_ok-measure.ensures.size in
    let set = rw (c.loop-leaf.invariant.0, node) at c.in_ok-measure.ensures.asked in
    rw size (
      c.in_ok-measure.ensures.same ∙ c.loop-leaf.invariant.0,
      c.loop-leaf.invariant.1,
      omega arith,
      c.loop-leaf.invariant.3,
      rank-more us order c.loop-leaf.leaf rank sizes c.loop-leaf.asked c.measure.new.asked measured
          (rw c.in_ok-measure.ensures.room measured.room) c.requires.order below over c.loop-leaf.invariant.1 inside
          set,
    )

pub returns-clause-lines : goal.returns-clause-lines
returns-clause-lines c =
    all-obey (units_held c.args.entries.now) c.args.order.now c.loop-leaf.leaf c.loop-leaf.rank c.loop-leaf.sizes
    c.loop-leaf.asked c.loop-leaf.invariant.4 c.requires.order
    (omega (arith, c.if-leaf-count.false, c.count-count.ensures))
    (omega (arith, c.if-rank-count.false, c.count-else-leaf-count.ensures))

pub returns-clause-asked : goal.returns-clause-asked
returns-clause-asked c =
    all-told (units_held c.args.entries.now) c.args.order.now c.loop-leaf.leaf c.loop-leaf.rank c.loop-leaf.sizes
    c.loop-leaf.asked c.loop-leaf.invariant.4 c.requires.order
    (omega (arith, c.if-leaf-count.false, c.count-count.ensures))
    (omega (arith, c.if-rank-count.false, c.count-else-leaf-count.ensures))
