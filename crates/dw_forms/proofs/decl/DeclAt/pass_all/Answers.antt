use Rattle.std.proofs.Common.{rules}
use Rattle.dw_forms.proofs.SuffixLaws.{whole_cut}
use Rattle.dw_forms.proofs.decl.DeclAt.pass_all.Goals as goal

pub returns-in-Some : goal.returns-in-Some
returns-in-Some c = search (rules, whole_cut)
