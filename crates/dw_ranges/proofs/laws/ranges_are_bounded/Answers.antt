use Rattle.dw_ranges.proofs.BoundLaws.{list_bounded}
use Rattle.dw_ranges.proofs.laws.ranges_are_bounded.Goals as goal

pub returns : goal.returns
returns c = list_bounded
