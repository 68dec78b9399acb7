use Rattle.std.proofs.Common.{◌≡◌, ◌+◌, map, take, sum_by}
use Rattle.dw_cprint.specs.Lengths.{capped, member_bytes}
use Rattle.dw_cprint.specs.Shapes.{view_member}
use Rattle.dw_cprint.specs.Summaries.{known_of}
use Rattle.dw_cprint.proofs.lengths.members_length.Given as goal

abbrev pub invariant-loop-member : goal.invariant-loop-member
invariant-loop-member l =
    l.bytes ≡ capped (3 + sum_by (member_bytes (known_of l.survey)) (map view_member (take l.member-index l.members)))
