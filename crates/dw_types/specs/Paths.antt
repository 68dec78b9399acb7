-- Chapter: paths and cycles, by a relation that tells which steps lead from one to another.
use Rattle.std.specs.Prelude.{◌≡◌, ℕ, zero, suc}

-- so many steps lead from one to another
abbrev pub Leads : (ℕ → ℕ → Type 0) → ℕ → ℕ → ℕ → Type 0
Leads Step zero from to = from ≡ to
Leads Step (suc k) from to = (next : ℕ) × Step from next × Leads Step k next to

-- some steps, at least one, lead from one to itself
abbrev pub IsOnCycle : (ℕ → ℕ → Type 0) → ℕ → Type 0
IsOnCycle Step node = (k : ℕ) × Leads Step (suc k) node node

-- some steps lead from one to another that is on a cycle
abbrev pub ReachesCycle : (ℕ → ℕ → Type 0) → ℕ → Type 0
ReachesCycle Step node = (k to : ℕ) × Leads Step k node to × IsOnCycle Step to
