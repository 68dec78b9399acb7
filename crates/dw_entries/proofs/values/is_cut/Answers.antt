use Rattle.std.proofs.Common.{refl}
use Rattle.dw_entries.proofs.LeadValues.{text_cut, reference_cut}
use Rattle.dw_entries.proofs.values.is_cut.Goals as goal

pub returns-in-Strp : goal.returns-in-Strp
returns-in-Strp c = rw c.in-Strp.is (text_cut c.args.bytes.now _ refl)

pub returns-in-Ref4 : goal.returns-in-Ref4
returns-in-Ref4 c = rw c.in-Ref4.is (reference_cut c.args.bytes.now _ refl)
