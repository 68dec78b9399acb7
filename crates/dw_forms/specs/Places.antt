-- State: the place of the declaration of a code among those of its table.
use Rattle.std.specs.Prelude.{◌≡◌, ◌≢◌, ℕ, ◌<◌, List, length, Option, Some, None, All, AllPairs, get_or, slice_get}
use Rattle.std.specs.Ordering.{nat_cmp}
use Rattle.std.specs.BTreeMap.{BTreeMap, get}
use Rattle.dw_forms.specs.Abbrev.{Declaration, Decl}

-- the declaration at the place has the code, or none has it
abbrev pub IsPlace : List Decl → ℕ → Option ℕ → Type 0
IsPlace decls code None = All (λ d. d.code ≢ code) decls
IsPlace decls code (Some i) = (i < length decls) × ((d : Decl) → (get_or decls i d).code ≡ code)

-- the codes differ, and each code has the place of its declaration, or none
pub record IsIndex (decls : List Decl) (places : BTreeMap ℕ ℕ) : Type 0 where
  pub distinct : AllPairs (λ c d. c.code ≢ d.code) decls
  pub places_are : (code : ℕ) → IsPlace decls code (get nat_cmp places code)

-- the declaration at this place, from 0, has the code
abbrev pub StandsAt : List Declaration → ℕ → ℕ → Type 0
StandsAt decls place code = (d : Declaration) × (slice_get decls place ≡ Some d) × (d.code ≡ code)
