use Rattle.std.proofs.Common.{rules, ◌≡◌, length, refl, sym, arith}
use Rattle.dw_forms.proofs.ShortLists.{rest_joined, lacks_none, branches_kept, short_kept, short_more, joined_searched}
use Rattle.dw_forms.proofs.attribute_lists.push_long.Goals as goal

pub returns-then-next-lt-SHORT-clause-more : goal.returns-then-next-lt-SHORT-clause-more
returns-then-next-lt-SHORT-clause-more c n is =
    short_more c.args.nodes.now.items n c.args.branches.now.items c.args.rest c.args.next.now c.args.attribute
    c.requires.found c.if-next-lt-SHORT.true is

pub short_end-short-requires : goal.short_end-short-requires
short_end-short-requires c long =
    let rest = c.requires.short long in (rest.some, rw c.deref.ensures.value rest.within)

pub returns-in_err-places-clause-kept : goal.returns-in_err-places-clause-kept
returns-in_err-places-clause-kept c = search (rules, branches_kept)

pub unreachable-requires : goal.unreachable-requires
unreachable-requires c =
    let nodes = c.args.nodes.now.items in
    let code : c.from.result ≡ c.args.attribute = search rules in
    let joined = rest_joined c.args.branches.now.items nodes c.args.rest c.short_end-short.result c.args.next.now _
    c.requires.rest c.requires.next c.requires.short
    (rw c.deref.ensures.value at c.short_end-short.ensures.long) c.short_end-short.ensures.short refl in
    lacks_none nodes c.args.rest _ c.short_end-short.result joined c.args.attribute c.requires.new
    (rw (c.in-None.is, code, c.number_or-chain.ensures) at c.in_ok-places.ensures.twice)

pub returns-clause-kept : goal.returns-clause-kept
returns-clause-kept c = search (rules, branches_kept)

pub returns-clause-more : goal.returns-clause-more
returns-clause-more c n is =
    let nodes = c.args.nodes.now.items in
    let branches = c.push_branches.new.branches.items in
    let count = c.requires.next.count in
    let code : c.from.result ≡ c.args.attribute = search rules in
    let start : c.len-start.result ≡ length c.push.new.self.items = search rules in
    let joined = rest_joined c.args.branches.now.items nodes c.args.rest c.short_end-short.result c.args.next.now _
    c.requires.rest c.requires.next c.requires.short
    (rw c.deref.ensures.value at c.short_end-short.ensures.long) c.short_end-short.ensures.short refl in
    let kept = branches_kept c.args.branches.now.items c.push.new.self.items branches c.short_end-short.result
    c.in_ok-push.ensures.items c.in_ok-places.ensures.more nodes c.requires.found c.in_ok-places.ensures.found in
    let first = short_kept c.args.branches.now.items c.push.new.self.items branches c.short_end-short.result
    c.in_ok-push.ensures.items c.in_ok-places.ensures.more c.len-start.result start in
    joined_searched nodes n branches c.args.rest _ c.short_end-short.result c.len-start.result c.in-Some.places
    c.args.next.now c.args.attribute kept is refl first.0 first.1
    (omega (arith, c.if-next-lt-SHORT.false)) joined
    (rw (c.in-Some.is, sym start) at c.in_ok-places.ensures.below)
    (rw (c.in-Some.is, code, sym start, c.number_or-chain.ensures) at c.in_ok-places.ensures.branches)
