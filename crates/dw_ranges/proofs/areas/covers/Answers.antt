use Rattle.std.proofs.Common.{get_or, inl, inr, leb-true, le-leb}
use Rattle.std.proofs.lemmas.Bool.{cases_lt}
use Rattle.dw_ranges.specs.declared.range.Range.{Range}
use Rattle.dw_ranges.proofs.AreaLemmas.{covered, uncovered}
use Rattle.dw_ranges.proofs.areas.covers.Goals as goal

pub returns-in-Some : goal.returns-in-Some
returns-in-Some c =
    let areas = c.args.areas.now in
    let k = c.in-Some.k in
    let d : Range = record { low = 0; high = 0 } in
    let high = (get_or areas k d).high in
    let first = c.in-Some.ensures.found d in (
      λ ends. covered areas c.requires k c.args.range d c.in-Some.ensures.within first
          (leb-true c.args.range.high high ends),
      λ all. elim (cases_lt high c.args.range.high) [
        | inl short ↦ absurd (uncovered areas c.requires k c.args.range d c.in-Some.ensures.within first short all)
        | inr ends ↦ le-leb c.args.range.high high ends
      ],
    )
