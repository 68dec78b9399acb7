use Rattle.std.proofs.Common.{rules}
use Rattle.dw_links.proofs.LinkedEntries.{least_type_offset, least_twice, none_at_header, signed_before, not_before}
use Rattle.dw_links.proofs.references.check_type.Goals as goal

pub returns-then-contains_key-clause-err : goal.returns-then-contains_key-clause-err
returns-then-contains_key-clause-err c = search (rules, least_twice, signed_before)

pub returns-in-Some-clause-ok : goal.returns-in-Some-clause-ok
returns-in-Some-clause-ok c = search (rules, none_at_header, not_before)

pub returns-in-None-clause-err : goal.returns-in-None-clause-err
returns-in-None-clause-err c = search (rules, least_type_offset, not_before)
