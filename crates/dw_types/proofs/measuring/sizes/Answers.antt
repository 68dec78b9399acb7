use Rattle.dw_types.proofs.measuring.sizes.Goals as goal

pub new-linked-requires : goal.new-linked-requires
new-linked-requires c = rw (← c.requires.entries) c.tables.ensures

pub returns-clause-sound : goal.returns-clause-sound
returns-clause-sound c =
    rw c.requires.entries (rw (c.in_ok-flags.ensures.same, c.new-linked.ensures.same) at c.sizes_by.ensures.sound)
