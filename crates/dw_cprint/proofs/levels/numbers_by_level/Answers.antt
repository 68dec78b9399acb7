use Rattle.std.proofs.Common.{ℕ, length, rules}
use Rattle.std.proofs.lemmas.Fn.{always_returns_same}
use Rattle.std.proofs.lemmas.List.Sorted.{IsNonDecreasingBy-from_sort_by_key}
use Rattle.dw_cprint.specs.Judgements.{level_of}
use Rattle.dw_cprint.proofs.NumberLemmas.{numbers-by-level}
use Rattle.dw_cprint.proofs.levels.numbers_by_level.Goals as goal

pub returns-clause-all : goal.returns-clause-all
returns-clause-all c =
    rw c.in_ok-numbers.ensures at c.in_ok-sort_by_cached_key.ensures.permutation

pub returns-clause-sorted : goal.returns-clause-sorted
returns-clause-sorted c =
    let level : ℕ → ℕ = level_of c.args.levels.now c.args.named.now in
    numbers-by-level level (length c.args.named.now) c.sort_by_cached_key.new.self.items
    (IsNonDecreasingBy-from_sort_by_key level _ c.in_ok-sort_by_cached_key.ensures.sorted (λ a r q k. search rules))
    (rw c.in_ok-numbers.ensures at
    (c.in_ok-sort_by_cached_key.ensures.stable level (always_returns_same _ _ _ (λ a r q k. search rules))))
