use Rattle.dw_ranges.proofs.AreaLaws.{areas_unique}
use Rattle.dw_ranges.proofs.laws.areas_are_unique.Goals as goal

pub returns : goal.returns
returns c = areas_unique
