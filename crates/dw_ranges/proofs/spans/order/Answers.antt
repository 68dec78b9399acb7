use Rattle.std.proofs.lemmas.List.Sorted.{All-permutation}
use Rattle.std.proofs.lemmas.Option.{IfSome_then}
use Rattle.dw_ranges.specs.Spans.{IsSpan}
use Rattle.dw_ranges.proofs.SpanLemmas.{none_then, ordered_agree, meeting_disagrees, pairs_up_to}
use Rattle.dw_ranges.proofs.spans.order.Goals as goal

pub first_meeting-requires-clause-each : goal.first_meeting-requires-clause-each
first_meeting-requires-clause-each c =
    All-permutation IsSpan c.args.spans.now c.sort.new.spans c.sort.ensures.permutation c.requires

pub returns-clause-agree : goal.returns-clause-agree
returns-clause-agree c =
    none_then c.first_meeting.result c.first_meeting.ensures.none
    (ordered_agree c.args.spans.now c.sort.new.spans c.sort.ensures.permutation)

pub returns-clause-disagree : goal.returns-clause-disagree
returns-clause-disagree c =
    IfSome_then c.first_meeting.result c.first_meeting.ensures.first (λ k first.
    meeting_disagrees c.args.spans.now c.sort.new.spans k c.sort.ensures.permutation first)

pub returns-clause-sorted : goal.returns-clause-sorted
returns-clause-sorted c = pairs_up_to c.sort.new.spans c.sort.ensures.sorted
