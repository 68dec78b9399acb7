-- State: what an iterator over the attributes of an entry has left.
use Rattle.std.specs.Prelude.{◌≡◌, ℕ, ◌-◌, List, ◌∷◌, ◌++◌, length, map}
use Rattle.dw_forms.specs.declared.value.Value.{Value}
use Rattle.dw_forms.specs.Suffixes.{specs_in}
use Rattle.dw_forms.specs.Value.{view}
pub use Rattle.dw_entries.specs.declared.values.Values.{Values}
use Rattle.dw_entries.specs.EntryRules.{value_of}
use Rattle.dw_entries.specs.Grammar.{Datum, AttributeSpec, Attribute}
use Rattle.dw_entries.specs.ValuePlaces.{PlacedValue, placed_values_from}

-- an attribute and its value, without where the value's bytes lie in memory
abbrev pub viewed : ℕ × Value → ℕ × Datum
viewed item = (item.0, view item.1)

-- the attributes that are left, each with its value
abbrev pub values_left : Values → List (ℕ × Datum)
values_left it = map value_of it.left.0.0

-- the section that the values are in
abbrev pub info_of : Values → List ℕ
info_of it = it.info.now

-- the attributes that are left, each with its value and its place
abbrev pub placed_left : Values → List PlacedValue
placed_left it = placed_values_from (length it.info.now - length it.bytes.now) it.left.0.0

-- how the attributes that are left are declared
abbrev pub specs_left : Values → List AttributeSpec
specs_left it = specs_in it.attributes

-- some attributes begin with one, and others follow it; so do the bytes that spell them
pub record BeginWith (attributes others : List Attribute) (bytes rest : List ℕ) (item : ℕ × Datum) : Type 0 where
  pub attribute : Attribute
  pub left : attributes ≡ attribute ∷ others
  pub is : value_of attribute ≡ item
  pub spelled : bytes ≡ attribute.bytes ++ rest

-- the first attribute that is left is taken, with the bytes that spell its value
abbrev pub Takes : (old new : Values) → ℕ × Datum → Type 0
Takes old new item = BeginWith old.left.0.0 new.left.0.0 old.bytes.now new.bytes.now item
