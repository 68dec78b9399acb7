-- State: what is read of the children of an entry by a call for each.
use Rattle.std.specs.Prelude.{◌≡◌, ℕ, ◌<◌, Bool, List, [], ◌∷◌, Option}
use Rattle.std.specs.List.{list_any, cons_option}

-- whether one of these children, each a number below a bound, passes a test, whatever function the test computes
abbrev pub TellsAny : (test : ℕ → Bool → Type 0) → (bound : ℕ) → List ℕ → Bool → Type 0
TellsAny test bound children found =
    (passes : ℕ → Bool) → ((child : ℕ) (r : Bool) → child < bound → test child r → r ≡ passes child)
    → found ≡ list_any passes children

-- what is kept of these children, in order: of each what the call returned, if it returned something
abbrev pub AreKept : {T : Type 0} → (read : ℕ → Option T → Type 0) → List ℕ → List T → Type 0
AreKept read [] kept = kept ≡ []
AreKept {T = T} read (child ∷ children) kept =
    (one : Option T) × (rest : List T) × read child one × (kept ≡ cons_option one rest) × AreKept read children rest
