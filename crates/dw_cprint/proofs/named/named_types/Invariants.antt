use Rattle.dw_cprint.proofs.NamedLemmas.{AreSoFar}
use Rattle.dw_cprint.proofs.named.named_types.Given as goal

abbrev pub invariant-loop-k : goal.invariant-loop-k
invariant-loop-k l = AreSoFar l.source.image.now l.k l.named.ids.items l.named.names.items l.named.kinds.items
