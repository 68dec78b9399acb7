use Rattle.std.proofs.Common.{rules}
use Rattle.dw_entries.proofs.LeadingSteps.{begins, skip_within, left_there, over}
use Rattle.dw_entries.proofs.PlacedLaws.{rest_of_slice}
use Rattle.dw_entries.proofs.values.Values.go.Goals as goal

pub slice_bounds-self-count : goal.slice_bounds-self-count
slice_bounds-self-count c = search (rules, skip_within)

pub slice_bounds-self-start : goal.slice_bounds-self-start
slice_bounds-self-start c = search (rules, skip_within)

pub invariant_of-self : goal.invariant_of-self
invariant_of-self c = search (rules, left_there, rest_of_slice, skip_within)

pub returns-clause-passed : goal.returns-clause-passed
returns-clause-passed c = search (rules, over)

pub returns-clause-first : goal.returns-clause-first
returns-clause-first c = search (rules, begins)
