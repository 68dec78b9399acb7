use Rattle.std.proofs.Common.{rules}
use Rattle.dw_entries.proofs.KeptLaws.{kept_entry, decl_numbered, decl_kept, decl_is}
use Rattle.dw_entries.proofs.entries.Entries.at_with.Goals as goal

pub decl-requires-clause-some : goal.decl-requires-clause-some
decl-requires-clause-some c = search (rules, decl_numbered, kept_entry)

pub decl-requires-clause-within : goal.decl-requires-clause-within
decl-requires-clause-within c = search (rules, decl_kept, kept_entry)

pub invariant_of-result : goal.invariant_of-result
invariant_of-result c = search (rules, kept_entry, decl_is)
