use Rattle.std.proofs.Common.{◌<◌, ◌&&◌, ◌∙◌, ap, sym, arith, lt-ltb}
use Rattle.dw_ranges.specs.Live.{is_within}
use Rattle.dw_ranges.specs.declared.range.Range.{Range}
use Rattle.dw_ranges.proofs.LiveLemmas.{within_here, within_none}
use Rattle.dw_ranges.proofs.live.is_live.Goals as goal

pub returns-in-Some : goal.returns-in-Some
returns-in-Some c =
    let code = c.args.code.now in
    let r = c.args.range in
    let d : Range = record { low = 0; high = 0 } in
    let some : r.low < r.high = omega arith in
    within_here code c.requires r some c.in-Some.k d c.in-Some.ensures.within (c.in-Some.ensures.found d)
    ∙ sym (ap (λ b. b && is_within code r) (lt-ltb r.low r.high some))

pub returns-in-None : goal.returns-in-None
returns-in-None c =
    let code = c.args.code.now in
    let r = c.args.range in
    let d : Range = record { low = 0; high = 0 } in
    let some : r.low < r.high = omega arith in
    within_none code c.requires r some d c.in-None.ensures.none
    ∙ sym (ap (λ b. b && is_within code r) (lt-ltb r.low r.high some))
