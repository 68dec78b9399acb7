use Rattle.dw_types.proofs.measuring.sizes_with.Goals as goal

pub returns-clause-sound : goal.returns-clause-sound
returns-clause-sound c = rw c.new-linked.ensures.same at c.sizes_by.ensures.sound
