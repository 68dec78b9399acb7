use Rattle.std.proofs.Common.{rules}
use Rattle.dw_links.proofs.TableLemmas.{first_within, language_read}
use Rattle.dw_links.proofs.constant.language_in_unit.Goals as goal

pub value-requires : goal.value-requires
value-requires c = search (rules, first_within)

pub returns : goal.returns
returns c = search (rules, language_read)
