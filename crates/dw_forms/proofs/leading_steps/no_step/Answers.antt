use Rattle.std.proofs.Common.{refl, arith}
use Rattle.dw_forms.specs.LeadingWalks.{step_in, skip_in, lead_in}
use Rattle.dw_forms.proofs.leading_steps.no_step.Goals as goal

pub returns : goal.returns
unfolding step_in skip_in lead_in
returns c =
    record { lead = refl; to = refl; with_8 = refl; with_4 = refl; small = omega arith; few = omega arith }
