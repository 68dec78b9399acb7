use Rattle.dw_ranges.specs.Spans.{AreBefore}
use Rattle.dw_ranges.proofs.spans.first_meeting.Given as goal

abbrev pub invariant-loop-k : goal.invariant-loop-k
invariant-loop-k l = AreBefore l.spans l.k
