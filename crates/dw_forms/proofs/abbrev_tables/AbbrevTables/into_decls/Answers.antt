use Rattle.dw_forms.proofs.abbrev_tables.AbbrevTables.into_decls.Goals as goal

pub invariant_of-result : goal.invariant_of-result
invariant_of-result c = rw c.into_lists.ensures (record { all = c.requires.within; placed = c.requires.placed })
