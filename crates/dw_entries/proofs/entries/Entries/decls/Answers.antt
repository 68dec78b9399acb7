use Rattle.std.proofs.Common.{rules}
use Rattle.dw_entries.proofs.KeptLaws.{declared_among, specs_among}
use Rattle.dw_entries.proofs.entries.Entries.decls.Goals as goal

pub returns-clause-kept : goal.returns-clause-kept
returns-clause-kept c = search (rules, declared_among)

pub returns-clause-specs : goal.returns-clause-specs
returns-clause-specs c = search (rules, specs_among)
