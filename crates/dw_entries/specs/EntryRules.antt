-- Chapter: rules on each entry, on each attribute of an entry, or on each unit.
use Rattle.std.specs.Prelude.{◌≡◌, ℕ, ◌<◌, List, Some, slice_get, map}
use Rattle.dw_entries.specs.Grammar.{Datum, Attribute, Head}
use Rattle.dw_entries.specs.Entries.{Entry}
use Rattle.dw_entries.specs.Places.{Place, at_attribute}
pub use Rattle.dw_entries.specs.Failures.{Rule, Failure}

-- an attribute without its spelling: its code and its value
abbrev pub value_of : Attribute → ℕ × Datum
value_of a = (a.code, a.value)

-- the attributes of an entry in their order, each with its value
abbrev pub values_of : Head → List (ℕ × Datum)
values_of h = map value_of h.attributes

-- the attribute at this position of an entry is this one, with this value
abbrev pub HasAttribute : Entry → ℕ → ℕ → Datum → Type 0
HasAttribute entry position attribute value = slice_get (values_of entry.head) position ≡ Some (attribute, value)

-- a fact of each entry
abbrev pub EachEntry : (Entry → Type 0) → List Entry → Type 0
EachEntry P entries = (id : ℕ) (entry : Entry) → slice_get entries id ≡ Some entry → P entry

-- the entries are in rising offset
abbrev pub OffsetsRise : List Entry → Type 0
OffsetsRise entries = (i j : ℕ) (a b : Entry) → i < j → slice_get entries i ≡ Some a → slice_get entries j ≡ Some b
    → a.at < b.at

-- the failures of rules that are asked of what is at a place, as of an entry or of a unit, and of no attribute
pub record AtPlace (place : Place) (Fails : Rule → Type 0) (f : Failure) : Type 0 where
  pub stands : f.place ≡ place
  pub attribute : f.attribute ≡ 0
  pub fails : Fails f.rule

-- the failures of rules that are asked of each attribute of an entry
pub record AtAttributes (Fails : Entry → ℕ → Datum → Rule → Type 0) (entry : Entry) (f : Failure) : Type 0 where
  pub position : ℕ
  pub value : Datum
  pub has : HasAttribute entry position f.attribute value
  pub place : f.place ≡ at_attribute entry.at position
  pub fails : Fails entry f.attribute value f.rule

-- the failures of rules that are asked of each item of a list, as of each entry or of each unit, given its number
pub record InList {X : Type 0} (xs : List X) (Fails : ℕ → X → Failure → Type 0) (f : Failure) : Type 0 where
  pub number : ℕ
  pub item : X
  pub is_item : slice_get xs number ≡ Some item
  pub fails : Fails number item f

-- the failures of rules that are asked of each entry
abbrev pub AtEntries : List Entry → (Entry → Failure → Type 0) → Failure → Type 0
AtEntries entries Fails = InList entries (λ _. Fails)
