-- The order of two numbers.
use Rattle.std.proofs.Common.{◌≡◌, ℕ, ◌<◌, arith, ◌⊎◌}

-- one is less than the other, or they are equal
pub three_ways : (i j : ℕ) → ((i < j) ⊎ (i ≡ j)) ⊎ (j < i)
three_ways i j = grind arith
