use Rattle.std.proofs.Common.{◌∙◌, sym}
use Rattle.dw_forms.proofs.SuffixLaws.{flag_none, flag_some}
use Rattle.dw_forms.proofs.attributes.Attributes.flag.Goals as goal

pub returns-in-Some : goal.returns-in-Some
returns-in-Some c = c.known_flag.ensures ∙ sym (flag_some _ _ _ c.find.ensures _ _ c.in-Some.ensures)

pub returns-in-None : goal.returns-in-None
returns-in-None c = sym (flag_none _ _ _ c.find.ensures c.in-None.ensures)
