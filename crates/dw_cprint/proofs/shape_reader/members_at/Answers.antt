use Rattle.std.proofs.Common.{rules}
use Rattle.dw_cprint.proofs.LookUpLemmas.{kept-are}
use Rattle.dw_cprint.proofs.shape_reader.members_at.Goals as goal

pub returns : goal.returns
returns c = search (rules, kept-are)
