-- One attribute of those that are left.
use Rattle.std.proofs.Common.{rules, ◌≡◌, ℕ, ◌≤◌, List, [], ◌∷◌, ◌++◌, ◌-◌, length, take, drop, map, Option, Some, None, Result, Ok, Err, refl, sym, ap, ◌∙◌, append_assoc, true, false, flat_map, unwrap_or, IfSome}
use Rattle.dw_forms.specs.declared.attributes.Attributes.{Attributes}
use Rattle.dw_forms.specs.declared.form.Form.{Form}
use Rattle.dw_forms.specs.Sizes.{rest_at}
use Rattle.dw_forms.specs.Steps.{◌>>=◌}
use Rattle.dw_forms.specs.Suffixes.{Ends, specs_in}
use Rattle.dw_forms.specs.ValueReading.{value_at}
use Rattle.dw_forms.proofs.SuffixLaws.{first_specs}
pub use Rattle.dw_entries.specs.Grammar.{Datum, AttributeSpec, Context, Attribute, IsAttribute, AreAttributes, attribute_bytes, is_allowed}
use Rattle.dw_forms.specs.WithBytes.{ok_pair}
use Rattle.dw_entries.specs.Leading.{BeginsWithForm, DoesNotLead, ReadsFirst}
use Rattle.dw_entries.specs.PassedAttributes.{IsPassed}
pub use Rattle.dw_entries.specs.EntryRules.{value_of}
use Rattle.dw_entries.specs.Lookups.{declares, value_in}
pub use Rattle.dw_entries.specs.Values.{Left, value_context}
use Rattle.dw_entries.specs.ValuesLeft.{BeginWith, specs_left, Values}
use Rattle.dw_entries.proofs.ReadingSteps.{value_again, ValueFault}
use Rattle.dw_entries.proofs.ScanLaws.{rest_of}
pub use Rattle.dw_entries.specs.ValueLaws.{left_unique}

-- the first attribute, and those after it
pub record Goes (x : Context) (s : AttributeSpec) (ss : List AttributeSpec) (bytes : List ℕ)
    (found : List Attribute × List ℕ) : Type 0 where
  pub first : Attribute
  pub others : List Attribute
  pub parts : found.0 ≡ first ∷ others
  pub is : IsAttribute x s first
  pub are : AreAttributes x ss others
  pub spelled : bytes ≡ first.bytes ++ (flat_map attribute_bytes others ++ found.1)

goes : (x : Context) (s : AttributeSpec) (ss : List AttributeSpec) (bytes : List ℕ) (found : List Attribute × List ℕ)
    → AreAttributes x (s ∷ ss) found.0 → bytes ≡ flat_map attribute_bytes found.0 ++ found.1 → Goes x s ss bytes found
goes x s ss bytes found p spelled = search (rules, append_assoc)

module _ (x : Context) (gs : List AttributeSpec) (s : AttributeSpec) (ss : List AttributeSpec) (bytes : List ℕ)
    (l : Left x gs bytes) (e : gs ≡ s ∷ ss) where
  pub left_goes : Goes x s ss bytes l.0
  left_goes = search (rules, goes)

  -- what the reader of a value answers
  pub left_read : value_at x.version s.form x.address_size bytes
      ≡ Ok (left_goes.first.value, flat_map attribute_bytes left_goes.others ++ l.0.1)
  left_read = search (rules, left_goes, value_again)

  pub never_fails : (f : ValueFault) → value_at x.version s.form x.address_size bytes ≡ Err f → ⊥
  never_fails f read = let ok = left_read in cc

  module _ (v : Datum) (rest : List ℕ) (read : value_at x.version s.form x.address_size bytes ≡ Ok (v, rest)) where
    value_is : (left_goes.first.value ≡ v) × (flat_map attribute_bytes left_goes.others ++ l.0.1 ≡ rest)
    value_is = search (rules, ok_pair, left_goes, left_read)

    pub next_left : Left x ss rest
    next_left = ((left_goes.others, l.0.1), record { are = left_goes.are; spelled = sym value_is.1 })

    pub first_value : value_of left_goes.first ≡ (s.attribute, v)
    first_value = search (rules, left_goes, value_is)

    pub steps : (m : Left x ss rest) → map value_of l.0.0 ≡ (s.attribute, v) ∷ map value_of m.0.0
    unfolding next_left
    steps m =
        let same = left_unique x ss rest m next_left in
        search (rules, left_goes, first_value)

    pub takes : (m : Left x ss rest) → BeginWith l.0.0 m.0.0 bytes rest (s.attribute, v)
    unfolding next_left
    takes m =
        let same = left_unique x ss rest m next_left in
        record {
          attribute = left_goes.first;
          left = search (rules, left_goes, same);
          is = first_value;
          spelled = search (rules, left_goes, value_is);
        }

-- where none of these attributes has a code, no value has it
pub value_of_none : (x : Context) (specs : List AttributeSpec) (bs : List Attribute) (attribute : ℕ)
    → AreAttributes x specs bs → declares specs attribute ≡ false → None ≡ value_in (map value_of bs) attribute
value_of_none x [] [] attribute p e = refl
value_of_none x [] (a ∷ bs) attribute p e = absurd p
value_of_none x (s ∷ specs) [] attribute p e = absurd p
value_of_none x (s ∷ specs) (a ∷ bs) attribute p e = search (rules, (value_of_none x specs bs attribute p.1))

-- the bytes from a length on, as a slice has them
pub read_on : (bytes : List ℕ) (len : ℕ) (r : Result (Datum × List ℕ) ValueFault) {v : Datum} → len ≤ length bytes
    → r ≡ Ok (v, drop len bytes) → r ≡ Ok (v, take (length bytes - len) (drop len bytes))
read_on bytes len r {v} within e = search (rules, rest_of)

-- ---- the first attribute, read in a form that is given or in its own

form_given : (given : Option Form) (specs others : List AttributeSpec) (spec : AttributeSpec)
    → IfSome given (BeginsWithForm specs) → specs ≡ spec ∷ others → spec.form ≡ unwrap_or given spec.form
form_given None specs others spec fits e = refl
form_given (Some f) specs others spec fits e = fits spec others e

module _ (v : Values) (given : Option Form) (spec : AttributeSpec) (rest : Attributes) (form : Form)
    (first : Ends v.attributes rest (record { number = v.attributes.first; item = spec } ∷ []))
    (fits : IfSome given (BeginsWithForm (specs_left v))) (form_is : form ≡ unwrap_or given spec.form) where
  abbrev here : Context
  here = value_context v.version v.address_size

  parts_are : specs_left v ≡ spec ∷ specs_in rest
  parts_are = search (rules, first_specs)

  same : spec.form ≡ form
  same = search (rules, form_given, parts_are)

  pub form_allowed : is_allowed v.version form ≡ true
  form_allowed = search (rules, same, left_goes, parts_are)

  pub form_reads : (f : ValueFault) → value_at v.version form v.address_size v.bytes.now ≡ Err f → ⊥
  form_reads f read =
      never_fails here (specs_left v) spec (specs_in rest) v.bytes.now v.left parts_are f
      ((λ i. value_at v.version (same i) v.address_size v.bytes.now) ∙ read)

  module _ (d : Datum) (len : ℕ) (within : len ≤ length v.bytes.now)
      (read : value_at v.version form v.address_size v.bytes.now ≡ Ok (d, drop len v.bytes.now)) where
    abbrev after : List ℕ
    after = take (length v.bytes.now - len) (drop len v.bytes.now)

    own_read : value_at v.version spec.form v.address_size v.bytes.now ≡ Ok (d, after)
    own_read = search (rules, same, read_on)

    pub left_after : Left here (specs_in rest) after
    left_after = search (rules, next_left, parts_are, own_read)

    pub steps_after : (m : Left here (specs_in rest) after)
        → map value_of v.left.0.0 ≡ (spec.attribute, d) ∷ map value_of m.0.0
    steps_after = search (rules, steps, parts_are, own_read)

    pub takes_after : (m : Left here (specs_in rest) after)
        → BeginWith v.left.0.0 m.0.0 v.bytes.now after (spec.attribute, d)
    takes_after = search (rules, takes, parts_are, own_read)

    pub reads_first : ReadsFirst (specs_left v) (specs_in rest) (spec.attribute, d)
    reads_first = search (rules, parts_are, own_read)

-- ---- the first attribute, skipped

-- a value, by the bytes after it
value_there : (r : Result (Datum × List ℕ) ValueFault) (rest : List ℕ) → (r >>= λ x. Ok x.1) ≡ Ok rest
    → (d : Datum) × (r ≡ Ok (d, rest))
value_there (Ok x) rest e = let same : x.1 ≡ rest = cc in (x.0, ap (λ (b : List ℕ). Ok (x.0, b)) same)
value_there (Err f) rest e = absurd cc

none_there_at : (r : Result (Datum × List ℕ) ValueFault) (f : ValueFault) → (r >>= λ x. Ok x.1) ≡ Err f → r ≡ Err f
none_there_at (Ok x) f e = absurd cc
none_there_at (Err g) f e = search (rules)

module _ (v : Values) (spec : AttributeSpec) (rest : Attributes)
    (first : Ends v.attributes rest (record { number = v.attributes.first; item = spec } ∷ [])) where
  pub skipped : (len : ℕ) → rest_at v.version spec.form v.address_size v.bytes.now ≡ Ok (drop len v.bytes.now)
      → (d : Datum) × (value_at v.version spec.form v.address_size v.bytes.now ≡ Ok (d, drop len v.bytes.now))
  unfolding rest_at
  skipped len e = search (rules, value_there)

  pub skips_on : (f : ValueFault) → rest_at v.version spec.form v.address_size v.bytes.now ≡ Err f → ⊥
  unfolding rest_at
  skips_on f e =
      form_reads v None spec rest spec.form first tt refl f
      (none_there_at (value_at v.version spec.form v.address_size v.bytes.now) f e)

  -- it is declared so
  pub item_passed : DoesNotLead spec → (d : Datum) (len : ℕ) → len ≤ length v.bytes.now
      → value_at v.version spec.form v.address_size v.bytes.now ≡ Ok (d, drop len v.bytes.now)
      → IsPassed DoesNotLead (spec.attribute, d)
  item_passed quiet d len within read =
      let x = value_context v.version v.address_size in
      let parts = first_specs v.attributes rest spec first in
      let g = left_goes x (specs_left v) spec (specs_in rest) v.bytes.now v.left parts in
      record {
        context = x;
        spec = spec;
        passes = quiet;
        declared = g.first;
        is_attribute = g.is;
        is_item = search (rules, first_value);
      }
