use Rattle.std.proofs.Common.{leb, leb-true, leb-false, rules}
use Rattle.std.proofs.lemmas.List.Sorted.{IsPartitionPoint-from_clause, IsPartitionedBy-leb}
use Rattle.dw_forms.proofs.shared_ends.ends_up_to.Goals as goal

pub returns : goal.returns
returns c =
    let parted = IsPartitionedBy-leb (λ e. e.before) _ c.args.list c.requires in
    let point = IsPartitionPoint-from_clause (λ e. leb e.before c.args.list) _ _ c.partition_point.ensures.partitioned
    parted (λ a r q k. search rules) in
    record {
      within = c.partition_point.ensures.bound;
      point = (
        λ k d low high. leb-true _ _ (point.0 k d low high),
        λ k d low high. leb-false _ _ (point.1 k d low high),
      );
    }
