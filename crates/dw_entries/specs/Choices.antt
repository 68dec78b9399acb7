-- Laws: an address has one size, and a unit one version.
use Rattle.std.proofs.Common.{◌≡◌, ◌≢◌, ◌⊎◌, ℕ, inl, inr, sym, ap, ◌∙◌, arith}
use Rattle.std.specs.Coded.{Coded-set, coded_ℕ}
use Rattle.dw_entries.specs.Header.{IsSize, IsVersion}

nat_set : IsSet ℕ
nat_set = Coded-set coded_ℕ

one_choice : (n a b : ℕ) → a ≢ b → IsProp ((n ≡ a) ⊎ (n ≡ b))
one_choice n a b apart (inl p) (inl q) = ap inl (nat_set n a p q)
one_choice n a b apart (inl p) (inr q) = absurd (apart (sym p ∙ q))
one_choice n a b apart (inr p) (inl q) = absurd (apart (sym q ∙ p))
one_choice n a b apart (inr p) (inr q) = ap inr (nat_set n b p q)

-- an address has 4 bytes or 8, not both
pub size_unique : (size : ℕ) → IsProp (IsSize size)
size_unique size = one_choice size 4 8 (λ e. omega (arith, e))

-- a unit has version 4 or 5, not both
pub version_unique : (version : ℕ) → IsProp (IsVersion version)
version_unique version = one_choice version 4 5 (λ e. omega (arith, e))
