use Rattle.dw_cprint.specs.Judgements.{AreFirstRefusals}
use Rattle.dw_cprint.proofs.listing.refusals_of.Given as goal

abbrev pub invariant-loop-k : goal.invariant-loop-k
invariant-loop-k l = AreFirstRefusals l.source.image.now l.named.ids.items l.k l.refusals.items
