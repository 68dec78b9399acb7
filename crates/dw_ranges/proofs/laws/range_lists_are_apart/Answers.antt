use Rattle.std.proofs.Common.{drop, length}
use Rattle.dw_forms.specs.Formats.{apart, one_fault}
use Rattle.dw_ranges.specs.RangeLists.{range_list}
use Rattle.dw_ranges.proofs.laws.range_lists_are_apart.Goals as goal

pub returns-clause-apart : goal.returns-clause-apart
returns-clause-apart c = λ unit end offset. apart (range_list unit end offset)

pub returns-clause-one_fault : goal.returns-clause-one_fault
returns-clause-one_fault c =
    λ unit section offset. one_fault (range_list unit (length section) offset) (drop offset section)
