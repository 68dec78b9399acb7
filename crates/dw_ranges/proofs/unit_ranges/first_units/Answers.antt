use Rattle.std.proofs.Common.{rules}
use Rattle.std.proofs.lemmas.List.Sorted.{IsNonDecreasingBy-from_sort_by_key}
use Rattle.dw_ranges.specs.declared.unit_ranges.UnitRange.{UnitRange}
use Rattle.dw_ranges.proofs.UnitRangeLemmas.{first_permuted, on_ok}
use Rattle.dw_ranges.proofs.unit_ranges.first_units.Goals as goal

pub append_firsts-requires : goal.append_firsts-requires
append_firsts-requires c =
    IsNonDecreasingBy-from_sort_by_key (λ (r : UnitRange). r.low) _ c.sort_unstable_by_key.ensures.sorted
    (λ a r q k. search rules)

pub returns-clause-found : goal.returns-clause-found
returns-clause-found c =
    on_ok c.append_firsts.result c.append_firsts.ensures.found
    (first_permuted c.args.all.now c.sort_unstable_by_key.new.self c.append_firsts.new.ranges.items
    c.sort_unstable_by_key.ensures.permutation)
