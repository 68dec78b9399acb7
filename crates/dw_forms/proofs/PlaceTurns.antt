-- The places of attributes that have bits of their own, and the values before them, where each has one size.
use Rattle.std.proofs.Common.{inl, inr, rules, ◌≡◌, ℕ, ◌+◌, ◌-◌, ◌≤◌, true, false, List, [], ◌∷◌, ◌++◌, refl, sym, ap, subst, ◌∙◌, arith, Option, Some, None, IfSome, ◌≢◌, zero, suc, ◌%◌, ◌^◌, ◌<◌, length, bit_and, count_ones, length-append}
use Rattle.std.specs.Option.{ForSome}
use Rattle.std.specs.List.{list_any}
use Rattle.std.proofs.lemmas.Bool.{or_parts, cases_eq}
use Rattle.std.proofs.lemmas.List.{append_cancel_right, get_or_append_left, get_or_at}
use Rattle.dw_forms.specs.AttributeLists.{has_this, numbered_in, varies, known_with, IsKnown, Node}
use Rattle.dw_forms.specs.Chains.{Numbered, items_of, number_where}
use Rattle.dw_forms.specs.DeclaredLists.{before_code, AreTogether, IsPlaced, HavePlacesBelow, KnownPlace}
use Rattle.dw_forms.specs.KnownValues.{rest_beyond, known_sum, values_end, AttributeSpec}
use Rattle.dw_forms.specs.Suffixes.{nodes_of, numbered, specs_in, Ends, IsFrom, Attributes}
use Rattle.dw_forms.proofs.PartLaws.{IsSplit, Falls, falls, starts, none_before, split}
use Rattle.dw_forms.proofs.PassSteps.{known_is, run, sum_goes}
use Rattle.dw_forms.proofs.SuffixLaws.{number_is_within}
use Rattle.std.specs.Int.{bit_at}
use Rattle.std.proofs.lemmas.Nat.{mod-pow-add, ones_cat, ones_le_self, pow_pos}
use Rattle.std.specs.Int.Count.{ones-ones}
use Rattle.std.proofs.Math.Nat.{mod-lt}
use Rattle.std.proofs.lemmas.Nat.Bits.{bit_at-lt}
use Rattle.dw_forms.specs.AttributeBits.{bit_of, own_bits}
use Rattle.dw_forms.specs.KeptDecls.{AreWithin, HaveAllPlaces, KeptDecl}
use Rattle.dw_forms.specs.Offsets.{Stay}
use Rattle.dw_forms.proofs.ListStarts.{lists_stay}
use Rattle.dw_forms.proofs.OffsetLaws.{stay_same, stay_on}
use Rattle.dw_forms.proofs.OwnBits.{own_bit, zero_bit, set_bit}

-- ---- the values before an attribute, where each of them has one size

-- the attributes before a code, where the others begin with it
before_front : (code : ℕ) (front back : List (Numbered AttributeSpec))
    → list_any (has_this code) (items_of front) ≡ false
    → ((m : Numbered AttributeSpec) (list : List (Numbered AttributeSpec)) → back ≡ m ∷ list
    → has_this code m.item ≡ true) → before_code code (items_of (front ++ back)) ≡ items_of front
before_front code [] [] none passes = refl
before_front code [] (m ∷ back) none passes = rw (passes m back refl) refl
before_front code (n ∷ front) back none passes =
    let parts = or_parts (has_this code n.item) (list_any (has_this code) (items_of front)) none in
    rw parts.0 (λ i. n.item ∷ (before_front code front back parts.1 passes i))

module _ (all : Attributes) (code : ℕ) where
  here : IsSplit (has_this code) (nodes_of all) all.first (number_where (has_this code) (numbered all))
  here = search (rules, split)

  -- those before it come before the list that begins with it
  before_here : before_code code (specs_in all) ≡ items_of here.before
  before_here = search (rules, here, before_front)

  -- where the next value of no one size is not before it, each value before it has one size
  pub sized_here : (n : Node) → IsKnown (nodes_of all) all.first n
      → n.next_varying ≤ number_where (has_this code) (numbered all)
      → list_any varies (before_code code (specs_in all)) ≡ false
  sized_here n is less =
      let to = number_where (has_this code) (numbered all) in
      let within = number_is_within (has_this code) all in
      let next : number_where varies (here.before ++ numbered_in (nodes_of all) to)
      ≡ n.next_varying = ap (number_where varies) (sym here.goes) ∙ sym is.knows.varying in
      ap (list_any varies) before_here ∙ none_before varies all.first to here.before (numbered_in (nodes_of all) to)
      (subst (Falls all.first) here.goes (falls (nodes_of all) all.lists.now.known all.first all.within))
      (starts (nodes_of all) all.lists.now.known to within) (omega arith)

  module _ (found : Attributes) (from : IsFrom (has_this code) all found) where
    found_specs : known_sum 8 (specs_in found)
        ≡ known_sum 8 (items_of (numbered_in (nodes_of all) (number_where (has_this code) (numbered all))))
    found_specs = search rules

    -- the sum of their sizes
    pub sum_here : (n : Node) → IsKnown (nodes_of all) all.first n
        → known_with 8 n ≡ known_sum 8 (before_code code (specs_in all)) + known_sum 8 (specs_in found)
    sum_here n is = search (rules, known_is, sum_goes, here, found_specs, before_here)

    pub are_together : (n : Node) (at : ℕ) → IsKnown (nodes_of all) all.first n → n.next_varying ≤ found.first
        → at ≡ known_with 8 n - known_sum 8 (specs_in found) → AreTogether (numbered all) code at
    are_together n at is less sum = search (rules, sized_here, sum_here)

    -- so the values before it are cut off together
    pub cut_here : (at : ℕ) → AreTogether (numbered all) code at
        → (before : List (Numbered AttributeSpec)) → Ends all found before
        → (version : ℕ) (bytes : List ℕ) → values_end version 8 (items_of before) bytes ≡ rest_beyond at bytes
    cut_here at together before ends version bytes = search (rules, here, append_cancel_right, before_here, run)

-- what is known of a value that is there
pub for_some : {X : Type 0} (P : X → Type 0) (o : Option X) → IfSome o P → ForSome o P
for_some P None is x e = absurd cc
for_some P (Some y) is x e = search rules

-- ---- how many bits are below a place

one_bit : (bit : ℕ) → bit < 2 → count_ones bit ≡ bit
one_bit zero less = omega (arith, ones_le_self 0)
one_bit (suc zero) less = ones-ones 1
one_bit (suc (suc bit)) less = absurd (omega arith)

pub count_next : (bits place : ℕ)
    → count_ones (bits % 2 ^ (place + 1)) ≡ bit_at bits place + count_ones (bits % 2 ^ place)
count_next bits place =
    let next : place + 1 ≡ 1 + place = omega arith in
    (λ i. count_ones (bits % 2 ^ (next i)))
    ∙ ap count_ones (mod-pow-add bits 1 place)
    ∙ ones_cat place (bit_at bits place) (bits % 2 ^ place) (mod-lt bits (pow_pos place))
    ∙ (λ i. (one_bit (bit_at bits place) (bit_at-lt bits place) i) + count_ones (bits % 2 ^ place))

-- ---- what stays as more places are kept

pub places_stay : (list : List (Numbered AttributeSpec)) (end bits first : ℕ) (old new : List KnownPlace) → Stay old new
    → HavePlacesBelow end list bits first old → HavePlacesBelow end list bits first new
places_stay list end bits first old new stay have code less set =
    search (rules, stay, length-append, get_or_append_left)

-- ---- a turn: the next place

pub record Placing (list : List (Numbered AttributeSpec)) (bits place : ℕ) (old places : List KnownPlace) : Type 0 where
  pub stay : Stay old places
  pub long : length places ≡ length old + count_ones (bits % 2 ^ place)
  pub placed : HavePlacesBelow place list bits (length old) places

module _ (list : List (Numbered AttributeSpec)) (bits : ℕ) (old : List KnownPlace) where
  pub placing_first : Placing list bits 0 old old
  placing_first = search (rules, stay_same, ones_le_self)

  module _ (place : ℕ) (places : List KnownPlace) (turn : Placing list bits place old places) where
    next : bit_at bits place ≡ 0 → Placing list bits (place + 1) old places
    next clear = search (rules, count_next, cases_eq)

    one : bit_at bits place ≡ 1 → (p : KnownPlace) → ((code : ℕ) → bit_of code ≡ place → IsPlaced list code p)
        → Placing list bits (place + 1) old (places ++ p ∷ [])
    one set p is = record {
      stay = stay_on old places (places ++ p ∷ []) turn.stay (p ∷ [], refl);
      long = omega (arith, count_next bits place, length-append places (p ∷ []));
      placed = λ code less own. elim (cases_eq (bit_of code) place) [
        | inl same ↦
            let number : length old + count_ones (bits % 2 ^ bit_of code) ≡ length places = ap
            (λ (n : ℕ). length old + count_ones (bits % 2 ^ n)) same ∙ sym turn.long in (
              omega (arith, length-append places (p ∷ [])),
              λ q read. subst (IsPlaced list code) (sym (read ∙ get_or_at places p [] q _ (sym number))) (is code same),
            )
        | inr other ↦
            places_stay list place bits (length old) places (places ++ p ∷ []) (p ∷ [], refl) turn.placed code
            (omega arith) own
      ];
    }

    -- the attribute with the bit of its own at the place
    module _ (mask code : ℕ) (bit : bit_of code ≡ place) (mask_is : mask ≡ 2 ^ bit_of code) where
      pub placing_next : bit_and bits mask ≡ 0 → Placing list bits (place + 1) old places
      placing_next none = search (rules, next, zero_bit)

      pub placing_one : place < own_bits → bit_and bits mask ≢ 0 → (p : KnownPlace) → IsPlaced list code p
          → Placing list bits (place + 1) old (places ++ p ∷ [])
      placing_one less some p is =
          one (sym (ap (bit_at bits) bit) ∙ set_bit bits mask code mask_is some) p
          (λ other same. subst (λ (c : ℕ). IsPlaced list c p)
          (sym (own_bit code other (omega arith) (same ∙ sym bit))) is)

-- ---- the places of all declarations

pub all_places_stay : (nodes : List Node) (kept : List KeptDecl) (old new : List KnownPlace) → Stay old new
    → HaveAllPlaces nodes old kept → HaveAllPlaces nodes new kept
all_places_stay nodes kept old new stay have k d less = search (rules, places_stay, stay)

pub all_lists_stay : (old new : List Node) (kept : List KeptDecl) (places : List KnownPlace) → Stay old new
    → AreWithin old kept → HaveAllPlaces old places kept → HaveAllPlaces new places kept
all_lists_stay old new kept places stay within have k d less = search (rules, stay, lists_stay)
