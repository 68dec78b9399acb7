use Rattle.dw_forms.proofs.SizeLaws.{values_skip}
use Rattle.dw_forms.proofs.laws.fixed_values_take_their_sum.Goals as goal

pub returns : goal.returns
returns c = values_skip
