use Rattle.std.proofs.Common.{rules}
use Rattle.dw_links.proofs.LeadSteps.{after_within, declared_after}
use Rattle.dw_links.proofs.references.UnitLinks.is_completed.Goals as goal

pub decl-requires : goal.decl-requires
decl-requires c = search (rules, after_within)

pub returns : goal.returns
returns c = search (rules, declared_after)
