use Rattle.std.proofs.Common.{◌≡◌, ℕ, ◌+◌, ◌≤◌, ◌<◌, ◌↔◌, ◌∙◌, List, length, take, get_or, sym, subst, arith}
use Rattle.std.specs.Prelude.{All}
use Rattle.std.proofs.lemmas.List.{get_or_default, take_all}
use Rattle.std.proofs.lemmas.List.Elements.{All-weaker}
use Rattle.std.proofs.lemmas.Grind.{drop_more_same}
use Rattle.dw_ranges.specs.Areas.{Has}
use Rattle.dw_ranges.specs.declared.range.Range.{Range}
use Rattle.dw_ranges.proofs.AreaLemmas.{StartsUpTo, at_drop, drop_later, joined_more}
use Rattle.dw_ranges.proofs.areas.join_sorted.Goals as goal

pub add-count-requires-clause-below : goal.add-count-requires-clause-below
add-count-requires-clause-below c =
    let s = c.loop-k.ranges in
    let k = c.loop-k.k in
    let d : Range = record { low = 0; high = 0 } in
    subst (λ (r : Range). All (StartsUpTo r.low) (take c.loop-k.count s))
    (sym (at_drop k s c.args.ranges.now d c.loop-k.invariant.3))
    (c.loop-k.invariant.4 k d (omega arith) (omega arith))

pub loop-k-preserved : goal.loop-k-preserved
loop-k-preserved c =
    let s = c.loop-k.ranges in
    let xs = c.args.ranges.now in
    let k = c.loop-k.k in
    let d : Range = record { low = 0; high = 0 } in
    let within : k < length xs = omega arith in
    let is = sym (at_drop k s xs d c.loop-k.invariant.3) in
    let joined = c.add-count.ensures.joined in (
      omega (arith, c.add-count.ensures.within),
      joined.areas,
      joined_more (take c.loop-k.count s) (take c.add-count.result c.add-count.new.ranges) xs k (get_or s k d) d within
          is
          joined c.loop-k.invariant.2,
      drop_later (c.loop-k.count + 1) (k + 1) c.add-count.new.ranges s (omega arith) c.add-count.ensures.rest
          ∙ drop_more_same s xs k c.loop-k.invariant.3,
      λ j e le in'.
          let here : get_or xs k e ≡ get_or s k d = get_or_default xs k e d within ∙ is in
          let up = subst (λ (r : Range). r.low ≤ (get_or xs j e).low) here (c.requires k j e (omega arith) in') in
          All-weaker (StartsUpTo (get_or s k d).low) (StartsUpTo (get_or xs j e).low)
          (λ r starts. omega (arith, starts, up))
          (take c.add-count.result c.add-count.new.ranges) joined.below,
    )

pub returns-clause-same : goal.returns-clause-same
returns-clause-same c =
    subst (λ (xs : List Range). (a : ℕ) → Has (take c.loop-k.count c.loop-k.ranges) a ↔ Has xs a)
    (take_all c.loop-k.k c.args.ranges.now (omega arith)) c.loop-k.invariant.2
