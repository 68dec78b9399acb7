use Rattle.dw_types.proofs.FlagLemmas.{bit-set}
use Rattle.dw_types.proofs.flags.Flags.set_if.Goals as goal

pub returns-then-is-clause-set : goal.returns-then-is-clause-set
returns-then-is-clause-set c k =
    rw c.if-is.true
    (bit-set c.args.self.now.words.items c.args.number c.index_mut.result.now c.requires c.index_mut.ensures.value k)
