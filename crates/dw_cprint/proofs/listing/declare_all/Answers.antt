use Rattle.dw_cprint.proofs.listing.declare_all.Goals as goal

pub returns-clause-listing : goal.returns-clause-listing
returns-clause-listing c = rw c.in_ok-source.ensures at c.in_ok-listing.ensures.listing

pub returns-clause-text : goal.returns-clause-text
returns-clause-text c = rw c.in_ok-source.ensures at c.in_ok-listing.ensures.text
