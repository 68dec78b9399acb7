use Rattle.std.proofs.Common.{◌≡◌, ℕ, ◌+◌, ◌-◌, inl, inr, true, false, subst, arith}
use Rattle.std.specs.List.Sorted.{IsPartitionPoint}
use Rattle.dw_ranges.specs.Spans.{starts_up_to}
use Rattle.dw_ranges.proofs.SpanLemmas.{is_last, no_span, none_has}
use Rattle.dw_ranges.proofs.spans.function_at.Goals as goal
use Rattle.dw_ranges.proofs.spans.function_at.Goals.{then-span-group-via-then-span-group}
use Rattle.dw_ranges.proofs.spans.function_at.Goals.{then-span-group-via-else-span-group+then-span-address}

pub returns-then-span-group-clause-none : goal.returns-then-span-group-clause-none
returns-then-span-group-clause-none c =
    let xs = c.args.spans.now in
    let m = c.spans_up_to-after.result - 1 in
    let P : ℕ → Type 0 = λ n. IsPartitionPoint (λ s. starts_up_to c.args.group c.args.address s ≡ true)
    (λ s. starts_up_to c.args.group c.args.address s ≡ false) xs n in
    let e : c.spans_up_to-after.result ≡ m + 1 = omega arith in
    none_has xs c.requires c.args.group c.args.address m no_span (omega arith)
    (subst P e c.spans_up_to-after.ensures.up_to)
    (elim c.then-span-group.branch [
      | then-span-group-via-then-span-group w ↦ inl w.if-span-group.true
      | then-span-group-via-else-span-group+then-span-address w ↦ inr w.if-span-address.true
    ])

pub returns-clause-last : goal.returns-clause-last
returns-clause-last c =
    let xs = c.args.spans.now in
    let m = c.spans_up_to-after.result - 1 in
    let P : ℕ → Type 0 = λ n. IsPartitionPoint (λ s. starts_up_to c.args.group c.args.address s ≡ true)
    (λ s. starts_up_to c.args.group c.args.address s ≡ false) xs n in
    let e : c.spans_up_to-after.result ≡ m + 1 = omega arith in
    is_last xs c.requires c.args.group c.args.address m no_span (omega arith)
    (subst P e c.spans_up_to-after.ensures.up_to)
