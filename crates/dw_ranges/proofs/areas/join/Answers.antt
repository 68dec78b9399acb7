use Rattle.std.proofs.Common.{◌≡◌, ℕ, ◌↔◌, List, take, sym, ap, ◌∙◌, subst, arith, rules}
use Rattle.std.specs.List.Sorted.{IsNonDecreasingBy}
use Rattle.std.proofs.lemmas.List.{with_items_is}
use Rattle.std.proofs.lemmas.List.Sorted.{IsNonDecreasingBy-from_sort_by_key}
use Rattle.dw_ranges.specs.Areas.{Has}
use Rattle.dw_ranges.specs.declared.range.Range.{Range}
use Rattle.dw_ranges.proofs.AreaLemmas.{has_sorted}
use Rattle.dw_ranges.proofs.areas.join.Goals as goal

pub join_sorted-count-requires : goal.join_sorted-count-requires
join_sorted-count-requires c =
    subst (IsNonDecreasingBy (λ (r : Range). r.low)) (sym c.as_mut_slice.ensures.value)
    (IsNonDecreasingBy-from_sort_by_key (λ (r : Range). r.low) _ c.sort_unstable_by_key.ensures.sorted
    (λ a r q k. search rules))

pub returns-clause-same : goal.returns-clause-same
returns-clause-same c =
    let ended = c.join_sorted-count.new.ranges in
    let front : List Range = take c.join_sorted-count.result ended in
    let left : c.truncate.new.self.items ≡ front =
    c.truncate.ensures.items ∙ ap (take c.join_sorted-count.result)
    (with_items_is c.sort_unstable_by_key.new.self ended
    (omega (arith, c.join_sorted-count.auto.ranges, c.as_mut_slice.ensures.len))) in
    let same =
    subst (λ (ys : List Range). (a : ℕ) → Has front a ↔ Has ys a) c.as_mut_slice.ensures.value
    c.join_sorted-count.ensures.same in
    subst (λ (zs : List Range). (a : ℕ) → Has zs a ↔ Has c.args.ranges.now.items a) (sym left)
    (has_sorted c.args.ranges.now.items c.sort_unstable_by_key.new.self.items front
    c.sort_unstable_by_key.ensures.permutation same)
