use Rattle.std.proofs.Common.{rules}
use Rattle.dw_forms.proofs.WalkSteps.{step_within}
use Rattle.dw_forms.proofs.attributes.Attributes.stepped.Goals as goal

pub new-requires : goal.new-requires
new-requires c = search (rules, step_within)
