-- State: the attributes of an entry that a search passes, by how they are declared.
use Rattle.std.specs.Prelude.{◌≡◌, ℕ, List, ◌∷◌, ◌++◌, Some, Bool, true, false, slice_get}
use Rattle.std.specs.List.{list_any}
use Rattle.dw_forms.specs.Classes.{is_open}
use Rattle.dw_entries.specs.Grammar.{Datum, AttributeSpec, Context, Attribute, IsAttribute}
use Rattle.dw_entries.specs.EntryRules.{value_of}

-- the attribute is not open: each value that is declared so has one of its classes
abbrev pub IsNotOpen : AttributeSpec → Type 0
IsNotOpen spec = is_open spec ≡ false

-- an attribute and its value, with a specification that a search passes
pub record IsPassed (Passes : AttributeSpec → Type 0) (item : ℕ × Datum) : Type 0 where
  pub context : Context
  pub spec : AttributeSpec
  pub passes : Passes spec
  pub declared : Attribute
  pub is_attribute : IsAttribute context spec declared
  pub is_item : value_of declared ≡ item

-- each of them is such
abbrev pub ArePassed : (AttributeSpec → Type 0) → List (ℕ × Datum) → Type 0
ArePassed Passes items = (k : ℕ) (item : ℕ × Datum) → slice_get items k ≡ Some item → IsPassed Passes item

-- the found attribute follows some that are passed, and these are after it
pub record IsNextOf (Passes : AttributeSpec → Type 0) (items : List (ℕ × Datum)) (found : ℕ × Datum)
    (behind : List (ℕ × Datum)) : Type 0 where
  pub passed : List (ℕ × Datum)
  pub parts : items ≡ passed ++ found ∷ behind
  pub are_passed : ArePassed Passes passed

-- the first of these for which the test holds was taken, and those after it are left
pub record TakesFirst (test : AttributeSpec → Bool) (specs behind : List AttributeSpec) : Type 0 where
  pub passed : List AttributeSpec
  pub spec : AttributeSpec
  pub parts : specs ≡ passed ++ spec ∷ behind
  pub none_passed : list_any test passed ≡ false
  pub taken : test spec ≡ true
