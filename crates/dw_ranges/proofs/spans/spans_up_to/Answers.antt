use Rattle.std.proofs.Common.{rules}
use Rattle.std.proofs.lemmas.List.Sorted.{IsPartitionPoint-from_clause}
use Rattle.dw_ranges.specs.Spans.{starts_up_to}
use Rattle.dw_ranges.proofs.SpanLemmas.{up_parted}
use Rattle.dw_ranges.proofs.spans.spans_up_to.Goals as goal

pub returns-clause-up_to : goal.returns-clause-up_to
returns-clause-up_to c =
    IsPartitionPoint-from_clause (starts_up_to c.args.group c.args.address) _ _ c.partition_point.ensures.partitioned
    (up_parted c.args.spans.now c.requires c.args.group c.args.address) (λ a r q k. search rules)
