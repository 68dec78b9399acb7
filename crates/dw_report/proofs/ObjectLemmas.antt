-- Offsets of a cycle are no floats.
use Rattle.std.proofs.Common.{◌≡◌, ℕ, List, [], ◌∷◌, map, false, refl}
use Rattle.serde_json.specs.View.{items_of}
use Rattle.serde_json.specs.Written.{items_have_float}
use Rattle.dw_report.specs.JsonObjects.{whole_object}

pub no_floats : (xs : List ℕ) → items_have_float (items_of (map whole_object xs)) ≡ false
no_floats [] = refl
no_floats (x ∷ xs) = no_floats xs
