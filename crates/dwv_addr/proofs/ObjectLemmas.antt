-- The objects of answers have no floats.
use Rattle.std.proofs.Common.{◌≡◌, ℕ, List, Option, Some, None, false, refl}
use Rattle.serde_json.specs.Data.{Data}
use Rattle.serde_json.specs.View.{items_of}
use Rattle.serde_json.specs.Written.{has_float, items_have_float}
use Rattle.dwv_addr.specs.AnswerObjects.{answer_object}

-- an answer has none if its frames have none
pub no_floats : (address : Option ℕ) (frames : List Data) → items_have_float (items_of frames) ≡ false
    → has_float (answer_object address frames) ≡ false
no_floats None frames are = rw are refl
no_floats (Some address) frames are = rw are refl
