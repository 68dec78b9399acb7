use Rattle.std.proofs.Common.{rules}
use Rattle.dw_links.proofs.TableLemmas.{first_within, base_read}
use Rattle.dw_links.proofs.contribution.base_in_unit.Goals as goal

pub value-requires : goal.value-requires
value-requires c = search (rules, first_within)

pub returns-in-Some-SecOffset : goal.returns-in-Some-SecOffset
returns-in-Some-SecOffset c = search (rules, base_read)
