use Rattle.dw_addresses.proofs.programs.read_new.Goals as goal

pub returns-clause-found : goal.returns-clause-found
returns-clause-found c = (c.in_ok-index.index, c.in_ok-index.ensures.found, c.in_ok-push.ensures.items)
