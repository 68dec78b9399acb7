use Rattle.std.proofs.Common.{rules}
use Rattle.dw_links.proofs.LeadSteps.{sibling_after}
use Rattle.dw_links.proofs.references.UnitLinks.is_sibling.Goals as goal

pub returns : goal.returns
returns c = search (rules, sibling_after)
