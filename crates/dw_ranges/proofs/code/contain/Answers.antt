use Rattle.std.proofs.Common.{get_or, refl, subst, arith, below_more}
use Rattle.std.proofs.lemmas.List.{get_or_default}
use Rattle.dw_ranges.specs.Areas.{IsCovered}
use Rattle.dw_ranges.specs.declared.range.Range.{Range}
use Rattle.dw_ranges.proofs.CodeLemmas.{all_covered}
use Rattle.dw_ranges.proofs.code.contain.Goals as goal

pub loop-range-preserved : goal.loop-range-preserved
loop-range-preserved c k d =
    let xs = c.args.ranges.now in
    let i = c.loop-range.range-index in
    let none : Range = record { low = 0; high = 0 } in
    below_more (λ j. IsCovered c.args.areas.now (get_or xs j d)) i (λ j lt. c.loop-range.invariant j d lt)
    (subst (IsCovered c.args.areas.now) (get_or_default xs i none d (omega arith)) (c.if-not-covers.ensures.0 refl)) k

pub returns : goal.returns
returns c = (
  λ e. all_covered c.args.areas.now c.args.ranges.now (λ k d in'. c.loop-range.invariant k d (omega arith)),
  λ all.
      refl,
)
