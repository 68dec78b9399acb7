use Rattle.std.proofs.Common.{rules}
use Rattle.std.proofs.lemmas.Option.{slice_get-get_or}
use Rattle.dw_links.proofs.LeadSteps.{one_more_known}
use Rattle.dw_links.proofs.targets.Declared.is_declaration.Goals as goal

pub returns-in-Some-clause-exact : goal.returns-in-Some-clause-exact
returns-in-Some-clause-exact c = search (rules, slice_get-get_or, c.args.self.now.kept.right, c.args.self.now.kept.all)

pub invariant_of-self : goal.invariant_of-self
invariant_of-self c = search (rules, one_more_known, c.args.self.now.kept)
