use Rattle.std.proofs.Common.{ℕ, List, length, ap, sym, subst, arith, leb, rules}
use Rattle.std.specs.List.Sorted.{IsNonDecreasingBy}
use Rattle.std.proofs.lemmas.List.Sorted.{IsPartitionPoint-from_clause, IsPartitionedBy-leb}
use Rattle.dw_addresses.specs.declared.sequence.Sequence.{Sequence}
use Rattle.dw_addresses.proofs.AddressLemmas.{point_up_to, reached_has, reached_none, reaches_long, reaches_rise}
use Rattle.dw_addresses.proofs.sequence.sequence_with.Goals as goal
use Rattle.dw_addresses.proofs.sequence.sequence_with.Goals.{else-before-sequences-via-then-before-sequences+else-sequences-before}
use Rattle.dw_addresses.proofs.sequence.sequence_with.Goals.{else-before-sequences-via-else-before-sequences}

pub returns-then-sequences-before : goal.returns-then-sequences-before
returns-then-sequences-before c =
    let up = subst (λ (rs : List ℕ). IsNonDecreasingBy (λ (x : ℕ). x) rs) (sym c.requires.reaches)
    (reaches_rise 0 c.args.sequences.now) in
    let point = point_up_to (λ x. x) c.args.address c.args.reaches.now _ (
    IsPartitionPoint-from_clause (λ x. leb x c.args.address) _ _ c.partition_point-before.ensures.partitioned
    (IsPartitionedBy-leb (λ x. x) _ c.args.address up) (λ a r q k. search rules)) in
    reached_has c.args.address c.args.sequences.now c.args.reaches.now c.requires.reaches
    c.partition_point-before.result _ point (omega arith) (omega arith)

pub returns : goal.returns
returns c =
    let up = subst (λ (rs : List ℕ). IsNonDecreasingBy (λ (x : ℕ). x) rs) (sym c.requires.reaches)
    (reaches_rise 0 c.args.sequences.now) in
    let point = point_up_to (λ x. x) c.args.address c.args.reaches.now _ (
    IsPartitionPoint-from_clause (λ x. leb x c.args.address) _ _ c.partition_point-before.ensures.partitioned
    (IsPartitionedBy-leb (λ x. x) _ c.args.address up) (λ a r q k. search rules)) in
    let d : Sequence = record { low = 0; high = 0; first = 0; end = 0 } in
    let none = reached_none c.args.address c.args.sequences.now c.args.reaches.now c.requires.reaches
    c.partition_point-before.result d point c.requires.sorted in
    elim c.else-before-sequences.branch [
      | else-before-sequences-via-then-before-sequences+else-sequences-before w ↦
          none (omega arith) (λ lt. omega arith)
      | else-before-sequences-via-else-before-sequences w ↦
          none (omega (arith, reaches_long 0 c.args.sequences.now, ap length c.requires.reaches))
          (λ lt. absurd (omega arith))
    ]
