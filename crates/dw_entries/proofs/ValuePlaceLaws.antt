-- Values with their places are the values, and the first one with a code.
use Rattle.std.proofs.Common.{rules, ◌≡◌, ℕ, ◌+◌, Bool, List, [], ◌∷◌, length, map, refl, option_map}
use Rattle.std.proofs.lemmas.List.{length-map}
use Rattle.dw_entries.specs.EntryRules.{value_of, values_of}
use Rattle.dw_entries.specs.Grammar.{Attribute}
use Rattle.dw_entries.specs.Lookups.{value_at_entry, value_in, Entry}
pub use Rattle.dw_entries.specs.ValuePlaces.{PlacedValue, placed_value_at, placed_value_in, placed_values, placed_values_from}

values_from : (at : ℕ) (attributes : List Attribute)
    → map (λ (p : PlacedValue). (p.attribute, p.value)) (placed_values_from at attributes) ≡ map value_of attributes
values_from at [] = refl
values_from at (a ∷ more) = search (rules, (values_from (at + length a.bytes) more))

-- those of an entry
pub values_placed : (e : Entry)
    → map (λ (p : PlacedValue). (p.attribute, p.value)) (placed_values e) ≡ values_of e.head
values_placed e = search (rules, values_from)

-- as many
pub placed_long : (e : Entry) → length (placed_values e) ≡ length (values_of e.head)
placed_long e = search (rules, length-map, values_placed)

value_from : (at : ℕ) (attributes : List Attribute) (code : ℕ) → value_in (map value_of attributes) code
    ≡ option_map (λ (p : PlacedValue). p.value) (placed_value_in (placed_values_from at attributes) code)
value_from at [] code = refl
value_from at (a ∷ more) code = search (rules, (value_from (at + length a.bytes) more code))

-- that of an attribute
pub value_placed : (e : Entry) (attribute : ℕ)
    → value_at_entry e attribute ≡ option_map (λ (p : PlacedValue). p.value) (placed_value_at e attribute)
value_placed e attribute = search (rules, value_from)
