-- The attributes that are passed, up to the first one that a test holds for.
use Rattle.std.proofs.Common.{rules, ◌≡◌, ℕ, zero, suc, false, List, [], ◌∷◌, ◌++◌, map, length, take, drop, subst, append-nil, Bool}
use Rattle.std.specs.List.{list_any}
use Rattle.std.proofs.lemmas.Bool.{or_parts}
use Rattle.std.proofs.lemmas.List.{take-append-drop, length-map}
pub use Rattle.dw_forms.specs.declared.attributes.Attributes.{Attributes}
use Rattle.dw_forms.specs.Chains.{items_of}
use Rattle.dw_forms.specs.Suffixes.{specs_in, IsFrom, Ends}
pub use Rattle.dw_forms.proofs.SuffixLaws.{specs_ends, first_specs, follow}
use Rattle.dw_entries.specs.Grammar.{Datum, AttributeSpec, Context, Attribute, AreAttributes}
use Rattle.dw_entries.specs.EntryRules.{value_of}
use Rattle.dw_entries.specs.PassedAttributes.{ArePassed, IsNextOf, TakesFirst}

module _ (test : AttributeSpec → Bool) (x : Context) where
  -- it fails for an attribute that is declared so
  abbrev Fails : AttributeSpec → Type 0
  Fails spec = test spec ≡ false

  -- attributes are passed where the test fails for all of them
  pub front_passed : (front back : List AttributeSpec) (bs : List Attribute) → AreAttributes x (front ++ back) bs
      → list_any test front ≡ false → ArePassed Fails (take (length front) (map value_of bs))
  front_passed [] back bs are none j item is = absurd cc
  front_passed (s ∷ front) back [] are none j item is = absurd are
  front_passed (s ∷ front) back (b ∷ bs) are none zero item is = search (rules, or_parts)
  front_passed (s ∷ front) back (b ∷ bs) are none (suc j) item is =
      front_passed front back bs are.1 (or_parts (test s) (list_any test front) none).1 j item is

  pub all_passed : (specs : List AttributeSpec) (bs : List Attribute) → AreAttributes x specs bs
      → list_any test specs ≡ false → ArePassed Fails (map value_of bs)
  all_passed [] [] are none j item is = absurd cc
  all_passed [] (b ∷ bs) are none j item is = absurd are
  all_passed (s ∷ specs) [] are none j item is = absurd are
  all_passed (s ∷ specs) (b ∷ bs) are none zero item is = search (rules, or_parts)
  all_passed (s ∷ specs) (b ∷ bs) are none (suc j) item is =
      all_passed specs bs are.1 (or_parts (test s) (list_any test specs) none).1 j item is

  -- those before the first one that it holds for
  pub before_passed : (all found : Attributes) (is : IsFrom test all found) (bs : List Attribute)
      → AreAttributes x (specs_in all) bs
      → ArePassed Fails (take (length (follow test all found is).before) (map value_of bs))
  before_passed all found is bs are = search (rules, follow, specs_ends, length-map, front_passed)

-- the next one that is given is after those that are passed
pub next_found : (Passes : AttributeSpec → Type 0) (items left behind : List (ℕ × Datum)) (k : ℕ) (found : ℕ × Datum)
    → left ≡ found ∷ behind → left ≡ drop k items → ArePassed Passes (take k items)
    → IsNextOf Passes items found behind
next_found Passes items left behind k found steps rest are = record {
  passed = take k items;
  parts = search (rules, take-append-drop);
  are_passed = are;
}

-- where no more is given, all are passed
pub none_found : (Passes : AttributeSpec → Type 0) (items left : List (ℕ × Datum)) (k : ℕ) → left ≡ []
    → left ≡ drop k items → ArePassed Passes (take k items) → ArePassed Passes items
none_found Passes items left k ends rest are =
    let parts : take k items ≡ items = search (rules, append-nil, (take-append-drop k items)) in
    subst (ArePassed Passes) parts are

-- the first attribute of those that a search found is taken
pub stop_taken : (test : AttributeSpec → Bool) (all from mid after : Attributes) → IsFrom test all from → mid ≡ from
    → (spec : AttributeSpec) × Ends mid after (record { number = mid.first; item = spec } ∷ [])
    → TakesFirst test (specs_in all) (specs_in after)
stop_taken test all from mid after is same first =
    let f = follow test all from is in
    let ends : Ends from after (record { number = from.first; item = first.0 } ∷ []) = search rules in
    record {
      passed = items_of f.before;
      spec = first.0;
      parts = search (rules, specs_ends, first_specs);
      none_passed = f.none;
      taken = f.passes first.0 after ends;
    }
