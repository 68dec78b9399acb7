use Rattle.std.proofs.Common.{rules}
use Rattle.dw_entries.proofs.EntryFacts.{entries_rise}
use Rattle.dw_links.proofs.TargetLemmas.{entry_found}
use Rattle.dw_image.specs.Images.{units_in}
use Rattle.dw_image.proofs.image.Image.entry.Goals as goal

pub returns-clause-exact : goal.returns-clause-exact
unfolding units_in
returns-clause-exact c = search (rules, entry_found, entries_rise)
