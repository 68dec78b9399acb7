-- Attributes from one on: the first of them, those after it, and those from the next one of a kind on.
use Rattle.std.proofs.lemmas.Grind.{common_steps}
use Rattle.std.proofs.Common.{rules, ◌≡◌, ◌≢◌, ℕ, ◌≤◌, Bool, true, false, List, [], ◌∷◌, ◌++◌, length, Result, Ok, Err, refl, sym, ap, ◌∙◌, append-nil, arith, All, find, Some, None, eqb-true, length-append, take_at}
use Rattle.std.specs.List.{list_any, slice_range}
use Rattle.std.proofs.lemmas.List.{get_or_append_left, get_or_at}
use Rattle.std.proofs.lemmas.List.Folds.{find-append}
use Rattle.dw_forms.specs.AttributeLists.{IsKnown, spec_of, has_this, Node}
use Rattle.dw_forms.specs.Chains.{Numbered, items_of, number_where}
use Rattle.dw_forms.specs.FirstPlaces.{StandsFirst, ReadsFirst, value_behind}
use Rattle.dw_forms.specs.KnownValues.{values_end, known_flag, flag_by, flag_in, rest_beyond, whole_in, AttributeSpec}
use Rattle.dw_forms.specs.Steps.{◌>>=◌}
use Rattle.dw_forms.specs.Suffixes.{nodes_of, numbered, specs_in, Ends, IsFrom, Attributes}
use Rattle.dw_forms.specs.Value.{Datum}
use Rattle.dw_forms.specs.ValueReading.{value_at, ValueFault}
use Rattle.dw_forms.proofs.ChainLaws.{chain_none, are_numbered, none_has, some_has}
use Rattle.dw_forms.specs.Keys.{lacks_from}
use Rattle.dw_forms.proofs.SpelledLists.{find_none}
use Rattle.dw_forms.specs.Abbrev.{attribute_of}
use Rattle.dw_forms.proofs.PartLaws.{IsSplit, split}
use Rattle.dw_forms.proofs.PassSteps.{items_append, run}

-- ---- one list, and another that it ends with

-- there are none at the list 0
pub none_there : (a : Attributes) → a.first ≡ 0 → numbered a ≡ []
none_there a none = search (rules, chain_none)

-- the first attribute, and those after it
pub first_ends : (a rest : Attributes) (n : Node) → IsKnown (nodes_of a) a.first n → nodes_of rest ≡ nodes_of a
    → rest.first ≡ n.next → Ends a rest (record { number = a.first; item = spec_of n } ∷ [])
first_ends a rest n is same next = search (rules)

-- all of them, and then none
pub none_ends : (a rest : Attributes) → nodes_of rest ≡ nodes_of a → rest.first ≡ 0 → Ends a rest (numbered a)
none_ends a rest same none = search (rules, append-nil, chain_none)

-- the attributes in another list that one ends with
pub numbered_ends : (a b : Attributes) (before : List (Numbered AttributeSpec)) → Ends a b before
    → numbered a ≡ before ++ numbered b
numbered_ends a b before e = search rules

pub specs_ends : (a b : Attributes) (before : List (Numbered AttributeSpec)) → Ends a b before
    → specs_in a ≡ items_of before ++ specs_in b
specs_ends a b before e = search (rules, numbered_ends, items_append)

-- the first attribute before those after it
pub first_specs : (all rest : Attributes) (spec : AttributeSpec)
    → Ends all rest (record { number = all.first; item = spec } ∷ []) → specs_in all ≡ spec ∷ specs_in rest
first_specs all rest spec ends = search (rules, specs_ends)

-- ---- those from the next one of a kind on

module _ (test : AttributeSpec → Bool) (all : Attributes) where
  parted : IsSplit test (nodes_of all) all.first (number_where test (numbered all))
  parted = search (rules, split)

  -- they are among those that are kept
  pub number_is_within : number_where test (numbered all) ≤ length (nodes_of all)
  number_is_within = omega (arith, parted.within)

  -- those before them fail the test, and the first of them passes it
  pub record Follow (found : Attributes) : Type 0 where
    pub before : List (Numbered AttributeSpec)
    pub ends : Ends all found before
    pub none : list_any test (items_of before) ≡ false
    pub passes : (spec : AttributeSpec) (rest : Attributes)
        → Ends found rest (record { number = found.first; item = spec } ∷ []) → test spec ≡ true

  pub follow : (found : Attributes) → IsFrom test all found → Follow found
  unfolding parted
  follow found is = search (rules, parted, numbered_ends)

  -- where there are none from it on, all fail the test
  pub none_follow : (found : Attributes) → IsFrom test all found → specs_in found ≡ []
      → list_any test (specs_in all) ≡ false
  none_follow found is none =
      let f = follow found is in
      ap (list_any test) (specs_ends all found f.before f.ends
      ∙ (λ i. items_of f.before ++ none i) ∙ append-nil (items_of f.before))
      ∙ f.none

-- none of no attributes is of the kind
none_number : (test : AttributeSpec → Bool) → number_where test [] ≡ 0
unfolding number_where
none_number test = refl

pub none_from : (test : AttributeSpec → Bool) (all : Attributes) → all.first ≡ 0 → numbered all ≡ []
    → IsFrom test all all
none_from test all none is = search (rules, none, none_number)

-- the one of a code
pub found_within : (all : Attributes) (code found : ℕ) → found ≡ number_where (has_this code) (numbered all)
    → found ≤ length (nodes_of all)
found_within all code found is = search (rules, number_is_within)

-- ---- the size of all values together

pub whole_some : (a : Attributes) (n : Node) → IsKnown (nodes_of a) a.first n → n.next_varying ≡ 0
    → Some n.known_with_8 ≡ whole_in 8 (specs_in a)
whole_some a n is none = search (rules, none_has, are_numbered, none)

pub whole_none : (a : Attributes) (n : Node) → IsKnown (nodes_of a) a.first n → (n.next_varying ≡ 0 → ⊥)
    → None ≡ whole_in 8 (specs_in a)
whole_none a n is some = search (rules, some_has)

-- values that have one size each are cut off together
pub whole_cut : (version size : ℕ) (list : List (Numbered AttributeSpec)) (bytes : List ℕ)
    → Some size ≡ whole_in 8 (items_of list) → values_end version 8 (items_of list) bytes ≡ rest_beyond size bytes
whole_cut version size list bytes is = search (rules, run)

-- where there are none from it on, none has the code
pub none_has_it : (code : ℕ) (all found : Attributes) → IsFrom (has_this code) all found → specs_in found ≡ []
    → All (λ (spec : AttributeSpec). spec.attribute ≢ code) (specs_in all)
none_has_it code all found is none = lacks_from attribute_of code _ (none_follow _ all found is none)

-- ---- a flag, as its form says

find_first : (code : ℕ) (front : List AttributeSpec) (spec : AttributeSpec) (back : List AttributeSpec)
    → list_any (has_this code) front ≡ false → has_this code spec ≡ true
    → find (has_this code) (front ++ spec ∷ back) ≡ Some spec
find_first code front spec back none is =
    let others : find (has_this code) front ≡ None =
    find_none attribute_of code front (lacks_from attribute_of code front none) in
    rw (find-append (has_this code) front (spec ∷ back), others, is) refl

module _ (code : ℕ) (all found : Attributes) (is : IsFrom (has_this code) all found) where
  pub flag_none : specs_in found ≡ [] → flag_in code (specs_in all) ≡ Some false
  flag_none none = ap flag_by (find_none attribute_of code (specs_in all) (none_has_it code all found is none))

  pub flag_some : (spec : AttributeSpec) (rest : Attributes)
      → Ends found rest (record { number = found.first; item = spec } ∷ [])
      → flag_in code (specs_in all) ≡ known_flag spec.form
  flag_some spec rest first =
      let f = follow (has_this code) all found is in
      let parts : specs_in all ≡ items_of f.before ++ (spec ∷ specs_in rest) =
      specs_ends all found f.before f.ends
      ∙ (λ i. items_of f.before ++ (first_specs found rest spec first i)) in
      ap flag_by (ap (find (has_this code)) parts
      ∙ find_first code (items_of f.before) spec (specs_in rest) f.none (f.passes spec rest first))

-- ---- its value

-- the first one with the code comes after some that have another
stands_first : (code : ℕ) (front : List AttributeSpec) (spec : AttributeSpec) (back : List AttributeSpec)
    → list_any (has_this code) front ≡ false → has_this code spec ≡ true
    → StandsFirst (front ++ spec ∷ back) code (length front)
stands_first code front spec back none is =
    search (rules, common_steps, length-append, attribute_of, get_or_at, eqb-true, lacks_from, get_or_append_left)

front_range : (xs ys : List AttributeSpec) → slice_range (xs ++ ys) 0 (length xs) ≡ xs
front_range xs ys = search (rules, take_at)

reads_front : (version size code : ℕ) (front : List AttributeSpec) (spec : AttributeSpec) (back : List AttributeSpec)
    (bytes : List ℕ) (answer : Result Datum ValueFault)
    → list_any (has_this code) front ≡ false → has_this code spec ≡ true
    → answer ≡ value_behind version size spec.form (values_end version size front bytes)
    → ReadsFirst version size (front ++ spec ∷ back) code bytes answer
reads_front version size code front spec back bytes answer none is e = record {
  place = length front;
  first = stands_first code front spec back none is;
  reads = search (rules, get_or_at, front_range);
}

module _ (version size code : ℕ) (all found : Attributes) (is : IsFrom (has_this code) all found) where
  before_it : Follow (has_this code) all found
  before_it = search (rules, follow)

  -- what comes before it
  pub before_found : (before : List (Numbered AttributeSpec)) × Ends all found before
  before_found = (before_it.before, before_it.ends)

  module _ (spec : AttributeSpec) (rest : Attributes)
      (first : Ends found rest (record { number = found.first; item = spec } ∷ [])) (bytes : List ℕ) where
    reads_it : (answer : Result Datum ValueFault)
        → answer ≡ value_behind version size spec.form (values_end version size (items_of before_it.before) bytes)
        → ReadsFirst version size (specs_in all) code bytes answer
    reads_it answer e = search (rules, before_it, specs_ends, reads_front)

    -- the values before it fail
    pub before_fails : (f : ValueFault) → values_end version size (items_of before_found.0) bytes ≡ Err f
        → ReadsFirst version size (specs_in all) code bytes (Err f)
    unfolding before_found
    before_fails f e = search (rules, reads_it)

    module _ (mid : List ℕ) (passed : values_end version size (items_of before_found.0) bytes ≡ Ok mid) where
      value_here : (r : Result (Datum × List ℕ) ValueFault) → value_at version spec.form size mid ≡ r
          → value_behind version size spec.form (values_end version size (items_of before_it.before) bytes)
          ≡ (r >>= λ v. Ok v.0)
      unfolding before_found
      value_here r e = search rules

      pub it_fails : (f : ValueFault) → value_at version spec.form size mid ≡ Err f
          → ReadsFirst version size (specs_in all) code bytes (Err f)
      it_fails f e = reads_it _ (sym (value_here _ e))

      pub it_reads : (v : Datum) (more : List ℕ) → value_at version spec.form size mid ≡ Ok (v, more)
          → ReadsFirst version size (specs_in all) code bytes (Ok v)
      it_reads v more e = reads_it _ (sym (value_here _ e))
