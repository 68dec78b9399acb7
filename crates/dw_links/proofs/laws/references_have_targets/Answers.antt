use Rattle.dw_links.proofs.LinkedEntries.{have_targets, have_types}
use Rattle.dw_links.proofs.laws.references_have_targets.Goals as goal

pub returns-clause-targets : goal.returns-clause-targets
returns-clause-targets c = have_targets

pub returns-clause-types : goal.returns-clause-types
returns-clause-types c = have_types
