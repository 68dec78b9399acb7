-- Chapter: what it means that some bytes begin with a value.
use Rattle.std.specs.Prelude.{◌≡◌, ℕ, ◌≤◌, List, ◌++◌, length, take}

-- a beginning of the bytes spells this value and has this length. No other value, and no beginning of
-- another length, is spelled there
pub record BeginsWith {V : Type 0} (Spells : List ℕ → V → Type 0) (bytes : List ℕ) (value : V) (len : ℕ) : Type 0 where
  pub within : len ≤ length bytes
  pub spelled : Spells (take len bytes) value
  pub only : (text rest : List ℕ) (other : V) → bytes ≡ text ++ rest → Spells text other → (length text ≡ len)
      × (other ≡ value)

-- no beginning of the bytes spells any value
abbrev pub BeginsWithNone : {V : Type 0} → (List ℕ → V → Type 0) → List ℕ → Type 0
BeginsWithNone {V} Spells bytes = (text rest : List ℕ) (value : V) → bytes ≡ text ++ rest → Spells text value → ⊥

-- the bytes are a spelling of the value, and then the rest
pub record Takes {V : Type 0} (Spells : List ℕ → V → Type 0) (bytes : List ℕ) (value : V) (rest : List ℕ) : Type 0 where
  pub text : List ℕ
  pub parts : bytes ≡ text ++ rest
  pub spelled : Spells text value
