-- One turn of the loop that reads attributes.
use Rattle.std.proofs.Common.{rules, ◌≡◌, ℕ, true, List, [], ◌∷◌, Result, Ok, Err, refl, ◌++◌}
use Rattle.dw_forms.specs.Formats.{as_other}
use Rattle.dw_forms.specs.Steps.{◌>>=◌}
use Rattle.dw_entries.specs.Grammar.{Datum, AttributeSpec, Context, Attribute, IsAttribute, is_allowed}
pub use Rattle.dw_forms.specs.declared.value.ValueFault.{ValueFault}
use Rattle.dw_forms.specs.ValueReading.{value_at}
use Rattle.dw_forms.specs.Sizes.{rest_at}
use Rattle.dw_entries.specs.ItemFormats.{Failing, failing_by, value_rule, bytes_after, value_in, as_attribute, attribute, attributes}
use Rattle.dw_forms.specs.WithBytes.{with_front}

after_then : {A B : Type 0} (r : Result (A × List ℕ) Failing) (f : A × List ℕ → Result (B × List ℕ) Failing)
    (g : List ℕ → Result (List ℕ) Failing) → ((x : A × List ℕ) → bytes_after (f x) ≡ g x.1)
    → bytes_after (r >>= f) ≡ (bytes_after r >>= g)
after_then (Ok x) f g same = same x
after_then (Err e) f g same = refl

after_more : (a : Attribute) (r : Result (List Attribute × List ℕ) Failing)
    → bytes_after (r >>= λ more. Ok (a ∷ more.0, more.1)) ≡ bytes_after r
after_more a (Ok x) = refl
after_more a (Err e) = refl

-- the first of the values, and then those after it
pub attributes_cons : (t : Context) (f : AttributeSpec) (fs : List AttributeSpec) (bytes : List ℕ)
    → bytes_after ((attributes t (f ∷ fs)).read bytes)
    ≡ (bytes_after ((attribute t f).read bytes) >>= λ rest. bytes_after ((attributes t fs).read rest))
unfolding attributes
attributes_cons t f fs bytes = search (rules, after_then, after_more)

-- a turn of the loop gives the total, whatever reading the first value gives
pub attributes_turn : (t : Context) (f : AttributeSpec) (left fs : List AttributeSpec) (bytes : List ℕ)
    (total first : Result (List ℕ) Failing) → left ≡ f ∷ fs → bytes_after ((attribute t f).read bytes) ≡ first
    → bytes_after ((attributes t left).read bytes) ≡ total
    → (first >>= λ rest. bytes_after ((attributes t fs).read rest)) ≡ total
attributes_turn t f left fs bytes total first parts read so_far = search (rules, attributes_cons)

pub attributes_end : (t : Context) (left : List AttributeSpec) (bytes : List ℕ) → left ≡ []
    → bytes_after ((attributes t left).read bytes) ≡ Ok bytes
unfolding attributes
attributes_end t left bytes none = search (rules)

after_value : (spec : AttributeSpec) (t : Context) (bytes : List ℕ) (r : Result (Datum × List ℕ) ValueFault)
    → bytes_after (as_other (λ f. failing_by (value_rule f) spec.attribute)
    ((r >>= with_front (value_in t spec) bytes) >>= λ v. Ok (as_attribute spec.attribute v.0, v.1)))
    ≡ as_other (λ f. failing_by (value_rule f) spec.attribute) (r >>= λ x. Ok x.1)
after_value spec t bytes (Ok x) = refl
after_value spec t bytes (Err f) = refl

-- an attribute ends where its value does
pub attribute_ends : (t : Context) (spec : AttributeSpec) (version : ℕ) (bytes : List ℕ)
    (r : Result (List ℕ) ValueFault) → version ≡ t.version → true ≡ is_allowed version spec.form
    → rest_at version spec.form t.address_size bytes ≡ r
    → bytes_after ((attribute t spec).read bytes) ≡ as_other (λ f. failing_by (value_rule f) spec.attribute) r
unfolding attribute rest_at
attribute_ends t spec version bytes r v allowed is =
    let here : is_allowed t.version spec.form ≡ true = search rules in
    rw (← is, v, here) (after_value spec t bytes (value_at t.version spec.form t.address_size bytes))

-- a value that is spelled is read, whatever follows
pub value_again : (x : Context) (spec : AttributeSpec) (a : Attribute) (rest : List ℕ) → IsAttribute x spec a
    → value_at x.version spec.form x.address_size (a.bytes ++ rest) ≡ Ok (a.value, rest)
value_again x spec a rest p = (value_in x spec).is_reader.again a.bytes rest a.value p.value
