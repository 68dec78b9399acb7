use Rattle.std.proofs.Common.{rules, arith}
use Rattle.dw_forms.proofs.CodeLaws.{appended_none, appended, appended_ends, appended_new, appended_same, appended_twice}
use Rattle.dw_forms.proofs.chains.push_branches.Goals as goal

pub loop-place-init : goal.loop-place-init
loop-place-init g c = appended_none _ (g.L.Links.links c.args.links.now) c.args.rest _ c.requires.found c.requires.rest

pub returns-then-number-eq0-clause-branches : goal.returns-then-number-eq0-clause-branches
returns-then-number-eq0-clause-branches g c = search (rules, appended_ends)

pub returns-then-number-eq0-clause-new : goal.returns-then-number-eq0-clause-new
returns-then-number-eq0-clause-new g c = search (rules, appended_new)

pub loop-place-preserved : goal.loop-place-preserved
loop-place-preserved g c =
    let some = c.if-number-eq0.false in
    let links = g.L.Links.links c.args.links.now in
    rw c.in_ok-push.ensures.items
    (appended _ _ links c.args.rest _ _ _
    _ c.loop-place.invariant (omega arith) c.link-first.ensures _
    c.branch_at-other.ensures.near (rw c.deref.ensures.value at c.branch_at-other.ensures.kept)
    c.branch_at-other.ensures.none c.loop-place-test.true
    _ _ _ c.same_bit-same.ensures c.number_or.ensures
    c.number_or-number.ensures)

pub returns-then-number-eq0-2-clause-new : goal.returns-then-number-eq0-2-clause-new
returns-then-number-eq0-2-clause-new g c = search (rules, appended_new)

pub unreachable-requires : goal.unreachable-requires
unreachable-requires g c = search (rules, appended_same)

pub returns-clause-twice : goal.returns-clause-twice
returns-clause-twice g c = search (rules, appended_twice)
