-- Chapter: where the values of an entry are in .debug_info: their bytes follow its code, in the order of its
-- attributes (DWARF 5, 2.2 and 7.5.2).
use Rattle.std.specs.Prelude.{◌≡◌, ℕ, ◌+◌, ◌==◌, List, [], ◌∷◌, ◌++◌, length, Option, find, flat_map}
use Rattle.dw_entries.specs.Grammar.{Datum, Attribute, attribute_bytes}
use Rattle.dw_entries.specs.Entries.{Entry}

-- an attribute of an entry, its value, and the offset of the byte after those that spell the value
pub record PlacedValue : Type 0 where
  pub attribute : ℕ
  pub value : Datum
  pub end : ℕ

-- an attribute with its value, which ends at this offset
abbrev pub placed_value : ℕ → Datum → ℕ → PlacedValue
placed_value attribute value end = record { attribute = attribute; value = value; end = end }

-- these attributes, whose bytes start at an offset
abbrev pub placed_values_from : ℕ → List Attribute → List PlacedValue
placed_values_from at [] = []
placed_values_from at (a ∷ more) =
    placed_value a.code a.value (at + length a.bytes) ∷ placed_values_from (at + length a.bytes) more

-- the attributes of an entry
abbrev pub placed_values : Entry → List PlacedValue
placed_values e = placed_values_from (e.at + length e.head.code) e.head.attributes

-- the first of these attributes that has a code
abbrev pub placed_value_in : List PlacedValue → ℕ → Option PlacedValue
placed_value_in values attribute = find (λ (p : PlacedValue). p.attribute == attribute) values

-- an attribute of an entry, if the entry has it
abbrev pub placed_value_at : Entry → ℕ → Option PlacedValue
placed_value_at e attribute = placed_value_in (placed_values e) attribute

-- a section ends with these bytes, which follow the code of an entry and begin with those of its values
pub record FollowCode (section : List ℕ) (e : Entry) (bytes : List ℕ) : Type 0 where
  pub before : List ℕ
  pub rest : List ℕ
  pub parts : section ≡ before ++ bytes
  pub start : length before ≡ e.at + length e.head.code
  pub spelled : bytes ≡ flat_map attribute_bytes e.head.attributes ++ rest
