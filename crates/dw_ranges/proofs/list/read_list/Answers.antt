use Rattle.std.proofs.Common.{length}
use Rattle.dw_ranges.specs.RangeLists.{range_list}
use Rattle.dw_ranges.proofs.ListSteps.{found}
use Rattle.dw_ranges.proofs.list.read_list.Goals as goal

pub returns-in-Ok-clause-found : goal.returns-in-Ok-clause-found
returns-in-Ok-clause-found c =
    let section = c.args.section.now in
    found (range_list c.args.unit.now (length section) c.args.offset) section c.args.offset _ _ _
    c.in-Ok.ensures.exact
