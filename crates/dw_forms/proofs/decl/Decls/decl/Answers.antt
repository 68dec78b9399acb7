use Rattle.std.proofs.Common.{rules}
use Rattle.dw_forms.proofs.KeptLaws.{decl_read}
use Rattle.dw_forms.proofs.decl.Decls.decl.Goals as goal

pub index-requires : goal.index-requires
index-requires c = search (rules)

pub new-requires : goal.new-requires
new-requires c = search rules

pub returns : goal.returns
returns c = search (rules, decl_read)
