use Rattle.std.proofs.Common.{sym, ◌∙◌}
use Rattle.dw_forms.proofs.SizeLaws.{cut_short, rest_cut}
use Rattle.dw_forms.proofs.value_reader.skip_value.Goals as goal

pub returns-in-Some-clause-exact : goal.returns-in-Some-clause-exact
returns-in-Some-clause-exact c = rest_cut _ _ _ _ _ (sym c.in-Some.ensures.exact) ∙ cut_short _ _ c.if-bytes-size.true
