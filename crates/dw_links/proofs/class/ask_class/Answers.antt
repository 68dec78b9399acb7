use Rattle.std.proofs.Common.{rules}
use Rattle.dw_links.proofs.ClassLemmas.{class_least, unit_there}
use Rattle.dw_links.proofs.class.ask_class.Goals as goal

pub returns-else-is_allowed_in : goal.returns-else-is_allowed_in
returns-else-is_allowed_in c = search (rules, class_least, unit_there)
