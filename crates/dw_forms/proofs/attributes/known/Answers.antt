use Rattle.std.proofs.Common.{rules}
use Rattle.dw_forms.proofs.NodeLaws.{sum_with_8, sum_with_4}
use Rattle.dw_forms.proofs.attributes.known.Goals as goal

pub returns-then-address_size-eq8 : goal.returns-then-address_size-eq8
returns-then-address_size-eq8 c = sum_with_8 _ _ _ c.if-address_size-eq8.true

pub returns-else-address_size-eq8 : goal.returns-else-address_size-eq8
returns-else-address_size-eq8 c = search (rules, sum_with_4)
