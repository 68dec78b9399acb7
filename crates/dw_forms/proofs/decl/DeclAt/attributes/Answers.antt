use Rattle.dw_forms.specs.AttributeLists.{list_in, numbered_in}
use Rattle.dw_forms.proofs.decl.DeclAt.attributes.Goals as goal

pub new-requires : goal.new-requires
new-requires c = c.args.self.now.list.within

pub returns-clause-specs : goal.returns-clause-specs
returns-clause-specs c = λ i. list_in (c.new.ensures.lists i) (c.new.ensures.first i)

pub returns-clause-numbered : goal.returns-clause-numbered
returns-clause-numbered c = λ i. numbered_in (c.new.ensures.lists i) (c.new.ensures.first i)
