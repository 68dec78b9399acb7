use Rattle.std.proofs.Common.{[], subst}
use Rattle.std.proofs.lemmas.List.{append-nil}
use Rattle.dw_ranges.specs.Spans.{IsChain}
use Rattle.dw_ranges.proofs.spans.functions_at.Goals as goal

pub returns : goal.returns
returns c =
    subst (IsChain c.args.spans.now 0 c.args.address) (append-nil c.loop-function.functions.items)
    (c.loop-function.invariant [] c.in_default.ensures.none)
