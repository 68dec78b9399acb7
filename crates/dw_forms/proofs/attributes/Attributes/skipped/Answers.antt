use Rattle.std.proofs.Common.{rules}
use Rattle.dw_forms.proofs.NodeLaws.{sum_with_8, sum_with_4, skip_is}
use Rattle.dw_forms.proofs.attributes.Attributes.skipped.Goals as goal

pub returns-then-address_size-eq8 : goal.returns-then-address_size-eq8
returns-then-address_size-eq8 c = search (rules, sum_with_8, skip_is)

pub returns-else-address_size-eq8 : goal.returns-else-address_size-eq8
returns-else-address_size-eq8 c = search (rules, sum_with_4, skip_is)
