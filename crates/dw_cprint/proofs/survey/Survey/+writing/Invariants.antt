use Rattle.std.proofs.Common.{◌+◌, ◌*◌, map, drop}
use Rattle.dw_cprint.specs.Declarations.{term_at}
use Rattle.dw_cprint.specs.Kept.{kept}
use Rattle.dw_cprint.specs.Shapes.{view_member}
use Rattle.dw_cprint.proofs.ItemWriterLemmas.{IsLeft, members_left, parameters_left}
use Rattle.dw_cprint.proofs.survey.Survey.+writing.Given as goal

-- calls fall in depth, or stay there and go on to what needs less
abbrev pub decreases-put_before : goal.decreases-put_before
decreases-put_before l = 6 * l.depth

abbrev pub decreases-put_after : goal.decreases-put_after
decreases-put_after l = 6 * l.depth

abbrev pub decreases-put_named : goal.decreases-put_named
decreases-put_named l = 6 * l.depth + 1

abbrev pub decreases-put_member : goal.decreases-put_member
decreases-put_member l = 6 * l.depth + 2

abbrev pub decreases-put_parameter : goal.decreases-put_parameter
decreases-put_parameter l = 6 * l.depth + 2

abbrev pub decreases-put_aggregate : goal.decreases-put_aggregate
decreases-put_aggregate l = 6 * l.depth + 3

abbrev pub decreases-put_parameters : goal.decreases-put_parameters
decreases-put_parameters l = 6 * l.depth + 3

abbrev pub decreases-put_body : goal.decreases-put_body
decreases-put_body l = 6 * l.depth + 4

abbrev pub decreases-put_core : goal.decreases-put_core
decreases-put_core l = 6 * l.depth + 5

abbrev pub invariant-put_aggregate-loop-member : goal.invariant-put_aggregate-loop-member
invariant-put_aggregate-loop-member l =
    IsLeft (members_left (term_at l.depth (kept l.self))) (map view_member l.members) l.initial.out.items
    (map view_member (drop l.member-index l.members)) l.out.items

abbrev pub invariant-put_parameters-loop-parameter : goal.invariant-put_parameters-loop-parameter
invariant-put_parameters-loop-parameter l =
    IsLeft (parameters_left (term_at l.depth (kept l.self))) l.others l.initial.out.items
    (drop l.parameter-index l.others)
    l.out.items
