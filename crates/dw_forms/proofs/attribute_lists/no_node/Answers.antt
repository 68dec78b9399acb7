use Rattle.std.proofs.Common.{rules}
use Rattle.dw_forms.specs.Chains.{number_where}
use Rattle.dw_forms.proofs.OwnBits.{no_bits}
use Rattle.dw_forms.proofs.attribute_lists.no_node.Goals as goal

pub returns : goal.returns
unfolding number_where
returns c = search (rules, no_bits)
