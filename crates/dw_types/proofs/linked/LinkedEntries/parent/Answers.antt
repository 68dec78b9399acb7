use Rattle.dw_types.specs.Held.{units_held}
use Rattle.dw_types.proofs.SiblingLemmas.{parent-earlier}
use Rattle.dw_types.proofs.linked.LinkedEntries.parent.Goals as goal

pub returns-clause-earlier : goal.returns-clause-earlier
returns-clause-earlier c = parent-earlier (units_held c.args.self.now) c.args.id c.parent.result c.parent.ensures
