use Rattle.std.proofs.Common.{◌<◌, ◌≤◌, length, ◌∙◌, refl, arith}
use Rattle.dw_types.specs.Held.{entries_held, units_held}
use Rattle.dw_types.specs.SizeFaults.{fails_size}
use Rattle.dw_types.specs.SizeTables.{size_at}
use Rattle.dw_types.proofs.FirstLemmas.{pass-on}
use Rattle.dw_types.proofs.SizeRuleLemmas.{unasked-passes}
use Rattle.dw_types.proofs.size_rules.first_broken.Goals as goal

pub loop-node-init : goal.loop-node-init
loop-node-init c = (
  refl,
  rw (← c.count-count.ensures) c.next-node.ensures.within.1,
  λ k below.
      let inside : k < length (entries_held c.args.entries.now) =
      (let within = c.next-node.ensures.within.1 in let count = c.count-count.ensures in omega arith) in
      unasked-passes (units_held c.args.entries.now) (size_at c.args.sizes.now) k c.requires.lines inside
      (c.requires.asked.told k inside (c.next-node.ensures.none k (omega arith) below)),
)

pub broken_size-requires-clause-places : goal.broken_size-requires-clause-places
broken_size-requires-clause-places c =
    rw (c.loop-node.invariant.0, c.id-id.ensures) record {
      node_in = rw (← c.count-count.ensures) c.loop-node-test.true;
      long = c.requires.long;
    }

pub loop-node-preserved : goal.loop-node-preserved
loop-node-preserved c =
    let us = units_held c.args.entries.now in
    let table = size_at c.args.sizes.now in
    let fails = fails_size us table in
    let end : c.next-next.result ≤ length (entries_held c.args.entries.now) =
    rw (← c.count-count.ensures) c.next-next.ensures.within.1 in (
      c.in_ok-rule.ensures.same ∙ c.loop-node.invariant.0,
      end,
      pass-on fails c.loop-node.node c.next-next.result c.loop-node.invariant.2
          (rw (c.loop-node.invariant.0, c.id-id.ensures, c.in_default.is) at c.in_ok-rule.ensures.least)
          (λ k low below.
          let inside : k < length (entries_held c.args.entries.now) = omega arith in
          unasked-passes us table k c.requires.lines inside
          (c.requires.asked.told k inside (c.next-next.ensures.none k low below))),
    )

pub returns-in-Some-clause-first : goal.returns-in-Some-clause-first
returns-in-Some-clause-first c = record {
  inside = rw (c.id-id.ensures, ← c.count-count.ensures) c.loop-node-test.true;
  least = rw (c.loop-node.invariant.0, c.in-Some.is) at c.in_ok-rule.ensures.least;
  before = rw c.id-id.ensures c.loop-node.invariant.2;
}

pub returns-clause-first : goal.returns-clause-first
returns-clause-first c =
    let over : length (entries_held c.args.entries.now)
    ≤ c.loop-node.node = rw (← c.count-count.ensures) c.loop-node-test.false in
    λ k below. c.loop-node.invariant.2 k (omega arith)
