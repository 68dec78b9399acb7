use Rattle.std.proofs.Common.{rules}
use Rattle.dw_forms.proofs.NodeLaws.{next_more, sum_more, sum_more_4, count_more, and_true, and_false}
use Rattle.dw_forms.proofs.OwnBits.{more_bits}
use Rattle.dw_forms.proofs.attribute_lists.node_before.Goals.{then-next, else-next}
use Rattle.dw_forms.proofs.attribute_lists.node_before.Goals as goal

pub returns-clause-knows : goal.returns-clause-knows
returns-clause-knows c list knows =
    search (rules, next_more, sum_more, sum_more_4, count_more, more_bits, then-next, and_true, else-next, and_false)
