use Rattle.std.proofs.Common.{rules, refl, arith}
use Rattle.dw_forms.proofs.ChainLaws.{chain_none}
use Rattle.dw_forms.proofs.NodeLaws.{attribute_in, links_long, node_read}
use Rattle.dw_forms.proofs.ShortLists.{none_left, rest_read, in_chain, in_short, rest_few}
use Rattle.dw_forms.proofs.attribute_lists.AttributeLists.find.Goals as goal

pub returns-then-list-eq0 : goal.returns-then-list-eq0
returns-then-list-eq0 c = none_left _ _ _ (rw (c.if-list-eq0.true, chain_none _) refl)

pub find_short-requires-clause-short : goal.find_short-requires-clause-short
find_short-requires-clause-short c = search (rules, node_read)

pub search-found-requires-clause-chain : goal.search-found-requires-clause-chain
search-found-requires-clause-chain c = omega (arith, c.requires, links_long c.args.self.now.nodes.items)

pub returns-then-found-ne0 : goal.returns-then-found-ne0
returns-then-found-ne0 c = search (rules, rest_read, in_chain)

pub short_end-requires : goal.short_end-requires
short_end-requires c long = search (rules, rest_read)

pub find_short-requires-2-clause-list : goal.find_short-requires-2-clause-list
find_short-requires-2-clause-list c = search (rules, rest_read)

pub find_short-requires-2-clause-short : goal.find_short-requires-2-clause-short
find_short-requires-2-clause-short c = search (rules, rest_read, rest_few)

pub returns : goal.returns
returns c = search (rules, rest_read, attribute_in, in_short)
