use Rattle.std.proofs.Common.{rules, append_assoc}
use Rattle.dw_types.proofs.MemberLemmas.{own-row}
use Rattle.dw_types.proofs.by_value.push_row.Goals as goal

pub returns-clause-steps : goal.returns-clause-steps
returns-clause-steps c = search (rules, own-row, append_assoc)
