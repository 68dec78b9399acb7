use Rattle.std.proofs.Common.{rules}
use Rattle.dw_forms.proofs.NodeLaws.{node_read}
use Rattle.dw_forms.proofs.SuffixLaws.{none_there}
use Rattle.dw_forms.proofs.attributes.Attributes.node.Goals as goal

pub returns-then-self-eq0-clause-none : goal.returns-then-self-eq0-clause-none
returns-then-self-eq0-clause-none c = none_there c.args.self.now c.if-self-eq0.true

pub index-requires : goal.index-requires
index-requires c = search (rules)

pub returns-clause-known : goal.returns-clause-known
returns-clause-known c = search (rules, node_read)
