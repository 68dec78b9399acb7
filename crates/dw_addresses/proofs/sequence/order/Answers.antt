use Rattle.std.proofs.Common.{ℕ, ◌+◌, get_or, arith, rules}
use Rattle.std.proofs.lemmas.Fn.{always_returns_same}
use Rattle.dw_addresses.specs.declared.sequence.Sequence.{Sequence}
use Rattle.dw_addresses.proofs.OrderLemmas.{key_up_to}
use Rattle.dw_addresses.proofs.sequence.order.Goals as goal

pub returns-clause-sorted : goal.returns-clause-sorted
returns-clause-sorted c k d in' =
    let xs = c.sort_unstable_by_key.new.self in
    let key : Sequence → ℕ × ℕ = λ s. (s.low, s.first) in
    key_up_to (get_or xs k d) (get_or xs (k + 1) d)
    (c.sort_unstable_by_key.ensures.sorted key (always_returns_same _ _ _ (λ a r q p. search rules)) k d (omega arith)
    in')
