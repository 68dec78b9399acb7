-- State: the type of each signature, while the headers of type units are read.
use Rattle.std.specs.Prelude.{◌≡◌, ℕ, ◌<◌, List, Option, None, Some}
use Rattle.std.specs.Ordering.{nat_cmp}
use Rattle.std.specs.BTreeMap.{BTreeMap, get}
pub use Rattle.dw_entries.specs.declared.entries.Entries.{Entries}
pub use Rattle.dw_entries.specs.Views.{all_entries, all_units, Entry, PlacedUnit}
use Rattle.dw_links.specs.Signatures.{HasSignature, first_signed}
use Rattle.dw_links.specs.Targets.{type_of_unit, signed_type}

-- of the type units below a number, the type of the first that has the signature; None where none has
abbrev pub IsSignedType : List Entry → List PlacedUnit → (signature below : ℕ) → Option ℕ → Type 0
IsSignedType entries units signature below None =
    (number : ℕ) → number < below → HasSignature units signature number → ⊥
IsSignedType entries units signature below (Some id) =
    (first : ℕ) × (first < below) × (first_signed units signature ≡ Some first)
    × (type_of_unit entries units first ≡ Some id)

-- the table has the type of each signature of the type units below a number
abbrev pub AreSignedBelow : List Entry → List PlacedUnit → (below : ℕ) → BTreeMap ℕ ℕ → Type 0
AreSignedBelow entries units below table =
    (signature : ℕ) → IsSignedType entries units signature below (get nat_cmp table signature)

-- the table has the type of each signature
abbrev pub HasSignedTypes : Entries → BTreeMap ℕ ℕ → Type 0
HasSignedTypes entries table = (signature : ℕ) → get nat_cmp table signature
    ≡ signed_type (all_entries entries) (all_units entries) signature
