-- Chapter: the type units by their signatures: which have one, the first that has it, and that no two have the same.
use Rattle.std.specs.Prelude.{◌≡◌, ℕ, ◌==◌, Bool, false, List, Option, None, Some, slice_get}
use Rattle.std.specs.List.{position_from}
use Rattle.dw_entries.specs.declared.header.HeaderKind.{HeaderKind}
use Rattle.dw_entries.specs.declared.header.HeaderKind.TheVariants.{TypeUnit}
use Rattle.dw_entries.specs.Entries.{PlacedUnit}

-- the signature of a type unit, and how far after its header's first byte its type begins
abbrev pub type_unit_of : HeaderKind → Option (ℕ × ℕ)
type_unit_of (TypeUnit signature type_offset) = Some (signature, type_offset)
type_unit_of _ = None

-- the type unit with this number has the signature
pub record HasSignature (units : List PlacedUnit) (signature number : ℕ) : Type 0 where
  pub unit : PlacedUnit
  pub is_unit : slice_get units number ≡ Some unit
  pub type_offset : ℕ
  pub signed : type_unit_of unit.unit.header.kind ≡ Some (signature, type_offset)

-- no two type units have one signature
abbrev pub HaveDistinctSignatures : List PlacedUnit → Type 0
HaveDistinctSignatures units =
    (signature i j : ℕ) → HasSignature units signature i → HasSignature units signature j → i ≡ j

-- whether this is the signature, beside a type offset
abbrev pub is_signature_of : ℕ → Option (ℕ × ℕ) → Bool
is_signature_of signature None = false
is_signature_of signature (Some (other, type_offset)) = other == signature

-- the number of the first type unit that has the signature
unfoldable pub first_signed : List PlacedUnit → ℕ → Option ℕ
first_signed units signature =
    position_from (λ (u : PlacedUnit). is_signature_of signature (type_unit_of u.unit.header.kind)) 0 units
