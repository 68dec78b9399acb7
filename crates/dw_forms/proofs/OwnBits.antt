-- Attributes that are looked for have bits of their own, and a declaration has no more attributes than there are codes.
use Rattle.std.proofs.Common.{◌≢◌, ℕ, ◌<◌, ◌≤◌, eqb, List, ◌∷◌, length, map, sym, ◌∙◌, All, arith, AllPairs, eqb-true, rules, ◌≡◌, ◌⊎◌, inl, inr, true, [], refl, zero, suc, ◌*◌, ◌+◌, ◌^◌, false, ap, ◌==◌, ◌||◌, ◌↔◌, Bool, not, IsTrue, bit_or, bit_and, eq-eqb, ne_eqb}
use Rattle.std.proofs.lemmas.Bool.Decides.{Decides-eqb}
use Rattle.std.proofs.lemmas.List.{get_or-map, length-map}
use Rattle.std.proofs.lemmas.List.Folds.{Any-from_list_any}
use Rattle.std.proofs.lemmas.Map.Made.{IsDistinct-from_AllPairs}
use Rattle.std.proofs.lemmas.Map.Steps.{length-le_from_distinct_below}
use Rattle.std.proofs.lemmas.List.Elements.{All-cons, All-map}
use Rattle.std.proofs.lemmas.List.Kept.{AllPairs-cons}
use Rattle.dw_forms.specs.declared.form.Form.TheVariants.{Addr}
use Rattle.dw_forms.specs.declared.abbrev.AttributeSpec.{AttributeSpec}
use Rattle.dw_forms.specs.Abbrev.{AreAttributeSpecs, attribute_of}
use Rattle.dw_forms.specs.Sizes.{are_allowed}
use Rattle.std.specs.Int.{bit_at}
use Rattle.std.specs.List.{list_any}
use Rattle.std.proofs.lemmas.Bool.{cases_eq}
use Rattle.std.proofs.lemmas.Nat.{pow_pos}
use Rattle.std.proofs.lemmas.Nat.Bits.{bit_at_or, bit_at-pow_same, bit_at-pow_other, bit_at-zero, bit_at-lt, and_pow}
use Rattle.dw_forms.specs.AbbrevReading.{has_attribute}
use Rattle.dw_forms.specs.AttributeBits.{place_from, bit_of, own_bits, AreBitsOf}
use Rattle.dw_forms.specs.Keys.{lacks_from, lacks_test}

-- ---- a declaration has no more attributes than there are codes

-- no attribute has the code 0
codes : List AttributeSpec → List ℕ
codes specs = 0 ∷ map attribute_of specs

any_spec : AttributeSpec
any_spec = record { attribute = 0; form = Addr }

codes_apart : (specs : List AttributeSpec) → AreAttributeSpecs specs → AllPairs (λ x y. x ≢ y) (codes specs)
unfolding codes
codes_apart specs a =
    AllPairs-cons (λ x y. x ≢ y) 0 (map attribute_of specs)
    (All-map (λ n. 0 ≢ n) attribute_of specs (λ k d lt none. omega (arith, (a.each k d lt).some)))
    (λ i j d lt long same.
    let len = length-map specs attribute_of in
    let first = get_or-map attribute_of specs i any_spec d (omega arith) in
    let second = get_or-map attribute_of specs j any_spec d (omega arith) in
    a.distinct i j any_spec lt (omega arith) (sym first ∙ same ∙ second))

codes_small : (specs : List AttributeSpec) → AreAttributeSpecs specs → All (λ n. n < 0x10000) (codes specs)
unfolding codes
codes_small specs a =
    All-cons (λ n. n < 0x10000) 0 (map attribute_of specs) (omega arith)
    (All-map (λ n. n < 0x10000) attribute_of specs (λ k d lt. omega (arith, (a.each k d lt).small)))

pub few_specs : (specs : List AttributeSpec) → AreAttributeSpecs specs → length specs ≤ 0xffff
unfolding codes
few_specs specs a =
    let distinct = IsDistinct-from_AllPairs Decides-eqb (codes specs) (codes_apart specs a) in
    let few = length-le_from_distinct_below (codes specs) 0x10000 distinct
    (λ q h. let c = Any-from_list_any (eqb q) (codes specs) h in
    omega (arith, eqb-true q c.1 c.4, codes_small specs a c.0 c.1 c.2, c.3)) in
    omega (arith, length-map specs attribute_of)

-- ---- version 5 has all forms

in_5 : (specs : List AttributeSpec) → true ≡ are_allowed 5 specs
in_5 [] = refl
in_5 (spec ∷ specs) = in_5 specs

pub all_allowed : (version : ℕ) (specs : List AttributeSpec) → (version ≡ 4) ⊎ (version ≡ 5) → version ≢ 4
    → true ≡ are_allowed version specs
all_allowed version specs (inl four) other = absurd (other four)
all_allowed version specs (inr five) other = search (rules, in_5)

-- ---- bits as factors

no_product : (b p : ℕ) → 0 < p → b * p ≡ 0 → b ≡ 0
no_product zero p some none = refl
no_product (suc b) p some none = absurd (omega arith)

one_of : (b p : ℕ) → b < 2 → b * p ≢ 0 → b ≡ 1
one_of zero p less some = absurd (some (omega arith))
one_of (suc b) p less some = omega arith

-- ---- the places of codes

place_here : (k code c : ℕ) (codes : List ℕ) → code ≡ c → place_from k (c ∷ codes) code ≡ k
place_here k code c codes same = search rules

place_there : (k code c : ℕ) (codes : List ℕ) → code ≢ c → place_from k (c ∷ codes) code ≡ place_from (suc k) codes code
place_there k code c codes other = search rules

place_least : (k code : ℕ) (codes : List ℕ) → k ≤ place_from k codes code
place_least k code [] = omega arith
place_least k code (c ∷ codes) = search (rules, cases_eq, place_here, place_there, (place_least (suc k) code codes))

-- a code among these has a place of its own
own_place : (k code other : ℕ) (codes : List ℕ) → place_from k codes code < k + length codes
    → place_from k codes other ≡ place_from k codes code → other ≡ code
own_place k code other [] less same = absurd (omega arith)
own_place k code other (c ∷ codes) less same = elim (cases_eq code c) [
  | inl here ↦ elim (cases_eq other c) [
    | inl too ↦ too ∙ sym here
    | inr there ↦ absurd (omega
        (arith, place_here k code c codes here, place_there k other c codes there, place_least (suc k) other codes))
  ]
  | inr there ↦ elim (cases_eq other c) [
    | inl here ↦ absurd (omega
        (arith, place_here k other c codes here, place_there k code c codes there, place_least (suc k) code codes))
    | inr too ↦ own_place (suc k) code other codes (omega (arith, place_there k code c codes there))
        (sym (place_there k other c codes too) ∙ same ∙ place_there k code c codes there)
  ]
]

pub own_bit : (code other : ℕ) → bit_of code < own_bits → bit_of other ≡ bit_of code → other ≡ code
unfolding bit_of
own_bit code other less same = search (rules, own_place)

same_test : (code other : ℕ) → bit_of code < own_bits → (bit_of other == bit_of code) ≡ (other == code)
same_test code other own = search (rules, cases_eq, eq-eqb, ne_eqb, own_bit)

-- ---- the bits of a list

pub no_bits : AreBitsOf [] 0
no_bits i = rw (bit_at-zero i) refl

or_one : (bits place i : ℕ) → (bit_at (bit_or bits (2 ^ place)) i == 1) ≡ ((place == i) || (bit_at bits i == 1))
or_one bits place i = search (rules, cases_eq, bit_at-pow_same, eq-eqb, bit_at_or, bit_at-lt, bit_at-pow_other, ne_eqb)

pub more_bits : (bits bit : ℕ) (spec : AttributeSpec) (specs : List AttributeSpec) → bit ≡ 2 ^ bit_of spec.attribute
    → AreBitsOf specs bits → AreBitsOf (spec ∷ specs) (bit_or bits bit)
more_bits bits bit spec specs is are i = search (rules, or_one)

-- the same test of codes and of their bits
any_own : (code : ℕ) (specs : List AttributeSpec) → bit_of code < own_bits
    → list_any (λ (spec : AttributeSpec). bit_of spec.attribute == bit_of code) specs ≡ has_attribute code specs
any_own code [] own = refl
any_own code (spec ∷ specs) own = search (rules, same_test, (any_own code specs own))

module _ (bits mask code : ℕ) (is : mask ≡ 2 ^ bit_of code) where
  masked : bit_and bits mask ≡ bit_at bits (bit_of code) * 2 ^ bit_of code
  masked = search (rules, bit_and, and_pow)

  pub zero_bit : bit_and bits mask ≡ 0 → bit_at bits (bit_of code) ≡ 0
  zero_bit none = search (rules, no_product, pow_pos, masked)

  pub set_bit : bit_and bits mask ≢ 0 → bit_at bits (bit_of code) ≡ 1
  set_bit some = search (rules, one_of, bit_at-lt, masked)

module _ (bits mask code : ℕ) (specs : List AttributeSpec) (are : AreBitsOf specs bits) (is : mask ≡ 2 ^ bit_of code)
  where
    -- where the bit is clear, none has the code
    pub clear_bit : bit_and bits mask ≡ 0 → has_attribute code specs ≡ false
    clear_bit none =
        let zero = zero_bit bits mask code is none in
        let lacks = lacks_from (λ (spec : AttributeSpec). bit_of spec.attribute) (bit_of code) specs
        (sym (are (bit_of code)) ∙ (λ i. (zero i) == 1)) in
        lacks_test (λ (spec : AttributeSpec). spec.attribute) code specs
        (λ k d within same. lacks k d within (ap bit_of same))

    -- where a bit of its own is set, one has it
    pub own_bit_set : bit_of code < own_bits → bit_and bits mask ≢ 0 → has_attribute code specs ≡ true
    own_bit_set own some =
        sym (any_own code specs own) ∙ sym (are (bit_of code)) ∙ (λ i. (set_bit bits mask code is some i) == 1)

-- a test that finds no attribute with the code says that all have another one
pub lacks_is : (code : ℕ) (specs : List AttributeSpec) (found : Bool) → found ≡ has_attribute code specs
    → IsTrue (not found) ↔ All (λ (spec : AttributeSpec). spec.attribute ≢ code) specs
lacks_is code specs true is = (
  λ no. absurd (let wrong : false ≡ true = no in cc),
  λ lacks. sym
      (lacks_test (λ (spec : AttributeSpec). spec.attribute) code specs lacks) ∙ sym is,
)
lacks_is code specs false is =
    (λ _. lacks_from (λ (spec : AttributeSpec). spec.attribute) code specs (sym is), λ _. refl)
