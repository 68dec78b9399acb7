use Rattle.std.proofs.Common.{rules, arith}
use Rattle.dw_forms.specs.AttributeLists.{numbered_in}
use Rattle.dw_forms.proofs.ChainLaws.{chain_none}
use Rattle.dw_forms.proofs.NodeLaws.{few_in, known_small, node_read, attributes_in}
use Rattle.dw_forms.proofs.ShortLists.{one_less}
use Rattle.dw_forms.proofs.attribute_lists.AttributeLists.step.Goals as goal

pub returns-then-number-eq0 : goal.returns-then-number-eq0
returns-then-number-eq0 c =
    record { step = rw (c.if-number-eq0.true, chain_none _) c.no_step.ensures }

pub step_before-requires-clause-few : goal.step_before-requires-clause-few
step_before-requires-clause-few c = search (rules, node_read, few_in, one_less)

pub step_before-requires-clause-small : goal.step_before-requires-clause-small
step_before-requires-clause-small c =
    let a = c.args.self.now in
    let n = c.index-node.result.now in
    let is = node_read a.nodes.items c.args.number n a.known (omega (arith, c.if-number-eq0.false)) c.requires
    c.index-node.ensures in
    let less = is.next in
    known_small (numbered_in a.nodes.items n.next) _
    (attributes_in a.nodes.items n.next a.known (omega (arith, c.requires))) is.after.small

pub returns : goal.returns
returns c = search (rules, node_read)
