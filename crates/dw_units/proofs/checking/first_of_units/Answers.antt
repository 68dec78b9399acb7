use Rattle.dw_units.proofs.GroupLemmas.{first_by_unit}
use Rattle.dw_units.proofs.checking.first_of_units.Goals as goal

pub returns : goal.returns
returns c = first_by_unit
