use Rattle.std.proofs.Common.{leb, leb-true, leb-false, rules}
use Rattle.std.proofs.lemmas.List.Sorted.{IsPartitionPoint-from_clause, IsPartitionedBy-leb}
use Rattle.dw_ranges.proofs.unit_ranges.ranges_up_to.Goals as goal

pub returns-clause-up_to : goal.returns-clause-up_to
returns-clause-up_to c =
    let parted = IsPartitionedBy-leb (λ r. r.low) _ c.args.address c.requires in
    let point = IsPartitionPoint-from_clause (λ r. leb r.low c.args.address) _ _ c.partition_point.ensures.partitioned
    parted (λ a r q k. search rules) in
    (λ k d low high. leb-true _ _ (point.0 k d low high), λ k d low high. leb-false _ _ (point.1 k d low high))
