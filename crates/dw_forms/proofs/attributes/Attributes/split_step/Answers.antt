use Rattle.std.proofs.Common.{rules, ap}
use Rattle.dw_forms.specs.Chains.{items_of}
use Rattle.dw_forms.proofs.SuffixLaws.{first_ends}
use Rattle.dw_forms.proofs.attributes.Attributes.split_step.Goals as goal

pub new-rest-requires : goal.new-rest-requires
new-rest-requires c = search (rules)

pub returns-in-Some : goal.returns-in-Some
returns-in-Some c = search (rules, first_ends)

pub returns-in-None : goal.returns-in-None
returns-in-None c = ap items_of c.in-None.ensures.none
