use Rattle.std.proofs.Common.{rules}
use Rattle.dw_forms.proofs.NodeLaws.{has_is}
use Rattle.dw_forms.proofs.OwnBits.{clear_bit, own_bit_set}
use Rattle.dw_forms.proofs.attribute_lists.AttributeLists.has.Goals as goal

pub returns-then-known-mask_of-eq0 : goal.returns-then-known-mask_of-eq0
returns-then-known-mask_of-eq0 c = search (rules, clear_bit)

pub returns-then-bit_of-lt-OWN_BITS : goal.returns-then-bit_of-lt-OWN_BITS
returns-then-bit_of-lt-OWN_BITS c = search (rules, own_bit_set)

pub returns : goal.returns
returns c = has_is _ _ _ _ c.find.ensures
