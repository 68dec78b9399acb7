use Rattle.std.proofs.Common.{rules}
use Rattle.dw_links.proofs.TableLemmas.{unit_header}
use Rattle.dw_links.proofs.references.UnitLinks.entry.Goals as goal

pub at_with-requires-clause-header : goal.at_with-requires-clause-header
at_with-requires-clause-header c = search (rules, unit_header)
