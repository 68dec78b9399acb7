use Rattle.dw_types.specs.Held.{units_held}
use Rattle.dw_types.specs.SizeTables.{size_at}
use Rattle.dw_types.proofs.SizeRuleLemmas.{sized-line}
use Rattle.dw_types.proofs.measuring.measure.Goals as goal

pub may_fail-requires-clause-size : goal.may_fail-requires-clause-size
may_fail-requires-clause-size c =
    rw c.at-entry.ensures.found
    (sized-line (units_held c.args.entries.now) (size_at c.args.sizes.now) c.args.id c.capped_size-size.result
    (rw c.at-entry.ensures.same at c.capped_size-size.ensures.value))
