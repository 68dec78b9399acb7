use Rattle.std.proofs.Common.{refl}
use Rattle.dw_forms.proofs.SuffixLaws.{whole_some, whole_none}
use Rattle.dw_forms.proofs.attributes.Attributes.whole.Goals as goal

pub returns-in_default : goal.returns-in_default
returns-in_default c = rw c.in_default.ensures.none refl

pub returns-then-node-eq0 : goal.returns-then-node-eq0
returns-then-node-eq0 c = whole_some c.args.self.now c.in-Some.node.now c.in-Some.ensures.known c.if-node-eq0.true

pub returns-else-node-eq0 : goal.returns-else-node-eq0
returns-else-node-eq0 c = whole_none c.args.self.now c.in-Some.node.now c.in-Some.ensures.known c.if-node-eq0.false
