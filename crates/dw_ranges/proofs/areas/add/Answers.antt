use Rattle.std.proofs.Common.{◌≡◌, ◌+◌, ◌-◌, get_or, take, set, sym, subst, arith}
use Rattle.std.specs.Prelude.{All}
use Rattle.dw_ranges.specs.Areas.{AreAreas, Joins}
use Rattle.dw_ranges.specs.declared.range.Range.{Range}
use Rattle.dw_ranges.proofs.AreaLemmas.{StartsUpTo, EndsBelow, grown, joins_touching, joins_put, all_end, no_areas}
use Rattle.dw_ranges.proofs.areas.add.Goals as goal
use Rattle.dw_ranges.proofs.areas.add.Goals.{then-count-gt0+else-range-last, else-count-gt0}

pub returns-then-range-last-clause-joined : goal.returns-then-range-last-clause-joined
returns-then-range-last-clause-joined c =
    let s = c.args.ranges.now in
    let m = c.args.count - 1 in
    let d : Range = record { low = 0; high = 0 } in
    let e : m + 1 ≡ c.args.count = omega arith in
    rw c.max.ensures
    (subst (λ n. Joins (take n s) c.args.range (take n (set s m (grown (get_or s m d) c.args.range)))) e
    (joins_touching s m c.args.range d (omega arith) (subst (λ n. AreAreas (take n s)) (sym e) c.requires.areas)
    (subst (λ n. All (StartsUpTo c.args.range.low) (take n s)) (sym e) c.requires.below) (omega arith)
    c.if-range-last.true))

pub returns-clause-joined : goal.returns-clause-joined
returns-clause-joined c =
    let s = c.args.ranges.now in
    let d : Range = record { low = 0; high = 0 } in
    let put = joins_put s c.args.count c.args.range c.requires.room c.requires.areas c.requires.below (omega arith) in
    elim c.if-count-gt0.branch [
      | then-count-gt0+else-range-last w ↦
          let m = c.args.count - 1 in
          let e : m + 1 ≡ c.args.count = omega arith in
          put (subst (λ n. All (EndsBelow c.args.range.low) (take n s)) e
          (all_end s m c.args.range d (omega arith) (subst (λ n. AreAreas (take n s)) (sym e) c.requires.areas)
          (omega arith)))
      | else-count-gt0 w ↦ put (no_areas s c.args.count c.args.range.low (omega arith))
    ]
