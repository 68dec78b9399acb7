use Rattle.dw_addresses.proofs.CutLemmas.{LiveBefore}
use Rattle.dw_addresses.proofs.sequence.live_sequences.Given as goal

abbrev pub invariant-loop-end : goal.invariant-loop-end
invariant-loop-end l = LiveBefore l.code l.rows l.found.items l.first l.end
