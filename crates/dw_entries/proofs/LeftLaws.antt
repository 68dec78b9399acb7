-- The attributes of an entry that stand in .debug_info, and the value of one of them.
use Rattle.std.proofs.Common.{rules, ◌≡◌, ℕ, ◌+◌, List, ◌++◌, length, map, None, false, [], ◌∷◌, ◌≢◌, All, flat_map}
use Rattle.std.proofs.lemmas.Bool.{ne_eqb}
use Rattle.std.proofs.lemmas.Option.{slice_get-get_or}
use Rattle.std.proofs.lemmas.List.Folds.{list_any_none}
use Rattle.dw_entries.specs.Header.{UnitHeader, version_of, IsSize}
use Rattle.dw_entries.specs.EntryRules.{value_of, values_of}
use Rattle.dw_entries.specs.ValuePlaces.{placed_values, placed_values_from}
use Rattle.dw_entries.specs.Values.{value_context, Left, AttributeSpec, AreAttributes, attribute_bytes, Context, Attribute}
use Rattle.dw_entries.specs.Lookups.{declares, value_at_entry}
use Rattle.dw_entries.proofs.HeadLaws.{all_get, unit_sized}
use Rattle.dw_entries.proofs.KeptLaws.{KeptEntry, found_entry, found_unit, Tables, UnitRecord, Record, Scanned}
use Rattle.dw_entries.proofs.ValueSteps.{value_of_none, left_unique}

-- the table of a unit has no part in its attributes
without_table : (x : Context) (specs : List AttributeSpec) (bs : List Attribute) → AreAttributes x specs bs
    → AreAttributes (value_context x.version x.address_size) specs bs
without_table x [] [] p = tt
without_table x [] (b ∷ bs) p = absurd p
without_table x (s ∷ specs) [] p = absurd p
without_table x (s ∷ specs) (b ∷ bs) p = search (rules, (without_table x specs bs p.1))

module _ {base : ℕ} {a info : List ℕ} {tables : Tables} {rs : List UnitRecord} {records : List Record}
    {s : Scanned base a info tables rs records} {id : ℕ} (k : KeptEntry s id)
    (header : UnitHeader) (specs : List AttributeSpec) (bytes : List ℕ) (version : ℕ)
    (of_unit : header ≡ (found_unit s id).header) (of_specs : specs ≡ (found_entry s id).head.decl.attributes)
    (of_bytes : (behind : List ℕ) × (bytes ≡ flat_map attribute_bytes (found_entry s id).head.attributes ++ behind))
    (version_is : version ≡ version_of header.kind) where
  pub sized_here : IsSize header.address_size
  sized_here = search (rules, unit_sized, all_get, slice_get-get_or)

  context_is : value_context version header.address_size
      ≡ value_context (version_of (found_unit s id).header.kind) (found_unit s id).header.address_size
  context_is = search (rules)

  pub are_here : AreAttributes (value_context version header.address_size) specs (found_entry s id).head.attributes
  are_here = search (rules, without_table, context_is)

  pub left_here : Left (value_context version header.address_size) specs bytes
  left_here = (((found_entry s id).head.attributes, of_bytes.0), record { are = are_here; spelled = of_bytes.1 })

  -- whatever is known to be left is that
  pub values_here : (m : Left (value_context version header.address_size) specs bytes)
      → map value_of m.0.0 ≡ values_of (found_entry s id).head
  unfolding left_here
  values_here m =
      let same = left_unique (value_context version header.address_size) specs bytes m left_here in search rules

  -- with their places, if the bytes start where the code ends
  pub placed_here : (start : ℕ) → start ≡ (found_entry s id).at + length (found_entry s id).head.code
      → (m : Left (value_context version header.address_size) specs bytes)
      → placed_values_from start m.0.0 ≡ placed_values (found_entry s id)
  unfolding left_here
  placed_here start start_is m =
      let same = left_unique (value_context version header.address_size) specs bytes m left_here in search rules

-- ---- the value of one attribute

-- an attribute that is not declared has no value
pub undeclared : {base : ℕ} {a info : List ℕ} {tables : Tables} {rs : List UnitRecord} {records : List Record}
    {s : Scanned base a info tables rs records} {id : ℕ} (k : KeptEntry s id)
    (specs : List AttributeSpec) (attribute : ℕ) → specs ≡ (found_entry s id).head.decl.attributes
    → declares specs attribute ≡ false → None ≡ value_at_entry (found_entry s id) attribute
undeclared {s = s} {id = id} k specs attribute same none = search (rules, value_of_none)

-- a code that no attribute has is not declared
pub declares_none : (specs : List AttributeSpec) (attribute : ℕ)
    → All (λ (spec : AttributeSpec). spec.attribute ≢ attribute) specs → declares specs attribute ≡ false
declares_none specs attribute none = search (rules, list_any_none, ne_eqb)
