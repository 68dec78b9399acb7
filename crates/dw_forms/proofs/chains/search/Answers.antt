use Rattle.std.proofs.Common.{rules, ◌≤◌, length, ◌∙◌, arith}
use Rattle.dw_forms.proofs.RunLaws.{same_codes, parts_lowest}
use Rattle.dw_forms.proofs.CodeLaws.{search_ends, none_number, turn}
use Rattle.dw_forms.proofs.chains.search.Goals as goal

pub returns-then-differing-eq0 : goal.returns-then-differing-eq0
returns-then-differing-eq0 g c = search (rules, search_ends, same_codes)

pub branch_at-number-requires-clause-place : goal.branch_at-number-requires-clause-place
branch_at-number-requires-clause-place g c =
    (parts_lowest _ _ (search rules) c.ranges.code.fits c.if-differing-eq0.false).0

pub loop-number-smaller : goal.loop-number-smaller
loop-number-smaller g c = search (rules, turn)

pub loop-number-preserved : goal.loop-number-preserved
loop-number-preserved g c =
    let links = g.L.Links.links c.args.links.now in
    let n = c.loop-number.number in
    let test = c.loop-number-test.true in
    let within : n ≤ length links = c.loop-number.invariant.within in
    let on = turn _ links _ _ c.requires.found (omega arith) within c.link-first.ensures
    _ (search rules) c.ranges.code.fits c.if-differing-eq0.false _
    c.branch_at-number.ensures.near c.branch_at-number.ensures.kept c.branch_at-number.ensures.none in
    let less = on.0 in
    record { within = omega (arith, less); same = on.1 ∙ c.loop-number.invariant.same }

pub returns : goal.returns
returns g c = none_number (g.L.Links.links c.args.links.now) _ _ c.loop-number-test.false ∙ c.loop-number.invariant.same
