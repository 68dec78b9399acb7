use Rattle.std.proofs.Common.{rules}
use Rattle.dw_links.proofs.LeadSteps.{entry_is_after}
use Rattle.dw_links.proofs.references.UnitLinks.leads_well.Goals as goal

pub returns-in-Entry : goal.returns-in-Entry
returns-in-Entry c = search (rules, entry_is_after)
