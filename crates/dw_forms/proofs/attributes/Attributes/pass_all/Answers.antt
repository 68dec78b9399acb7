use Rattle.dw_forms.specs.Suffixes.{numbered}
use Rattle.dw_forms.proofs.SuffixLaws.{none_ends}
use Rattle.dw_forms.proofs.attributes.Attributes.pass_all.Goals as goal

pub pass-requires-clause-ends : goal.pass-requires-clause-ends
pass-requires-clause-ends c = (numbered c.args.self.now, none_ends _ _ c.new.ensures.lists c.new.ensures.first)

pub returns : goal.returns
returns c = c.pass.ensures (numbered c.args.self.now) (none_ends _ _ c.new.ensures.lists c.new.ensures.first)
