use Rattle.std.proofs.Common.{rules, arith}
use Rattle.dw_forms.specs.AttributeLists.{numbered_in}
use Rattle.dw_forms.proofs.ChainLaws.{chain_none}
use Rattle.dw_forms.proofs.NodeLaws.{known_small, node_read}
use Rattle.dw_forms.proofs.ShortLists.{rest_read}
use Rattle.dw_forms.proofs.attribute_lists.AttributeLists.node.Goals as goal

pub returns-then-number-eq0-clause-knows : goal.returns-then-number-eq0-clause-knows
returns-then-number-eq0-clause-knows c = rw (c.if-number-eq0.true, chain_none _) c.no_node.ensures

pub returns-then-number-eq0-clause-short : goal.returns-then-number-eq0-clause-short
returns-then-number-eq0-clause-short c long = let none = c.no_node.ensures.count in absurd (omega arith)

pub returns-clause-small : goal.returns-clause-small
returns-clause-small c =
    let some = c.if-number-eq0.false in
    let is = node_read c.args.self.now.nodes.items c.args.number c.index.result.now c.args.self.now.known
    (omega arith) c.requires c.index.ensures in
    known_small (numbered_in c.args.self.now.nodes.items c.args.number) _ is.attributes is.knows.small

pub returns-clause-short : goal.returns-clause-short
returns-clause-short c = search (rules, rest_read)
