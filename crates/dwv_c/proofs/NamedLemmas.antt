-- The name of an entry, by what its values mean.
use Rattle.std.proofs.Common.{◌≡◌, ℕ, Bool, true, false, List, [], ◌∷◌, ◌++◌, Option, Some, None, refl, sym, ap, subst}
use Rattle.std.specs.Prelude.{◌==◌, option_map, slice_get, unwrap_or}
use Rattle.std.specs.Option.{option_and_then, option_flatten, option_or}
use Rattle.std.proofs.lemmas.List.Folds.{find-append}
use Rattle.std.proofs.lemmas.Option.{option_and_then_some}
use Rattle.dw_forms.specs.Codes.{DW_AT_addr_base, DW_AT_name, DW_AT_str_offsets_base}
use Rattle.dw_forms.specs.Value.{Datum, address, ref_info, ref_unit, ref_sig, addr_index}
use Rattle.dw_entries.specs.Entries.{Entry, PlacedUnit, placed}
use Rattle.dw_entries.specs.declared.header.UnitHeader.{UnitHeader}
use Rattle.dw_entries.specs.Lookups.{value_at_entry}
use Rattle.dw_entries.specs.ValuePlaces.{PlacedValue, placed_value_at, placed_value_in, placed_values}
use Rattle.dw_entries.proofs.ValuePlaceLaws.{value_placed}
use Rattle.dw_links.specs.AttributeTexts.{text_at, text_place_at}
use Rattle.dw_links.specs.Bases.{base_in}
use Rattle.dw_links.specs.ValueTexts.{address_of, text_of_value, text_place_of}
use Rattle.dw_links.specs.declared.texts.TextPlace.{TextPlace}
use Rattle.dw_image.specs.declared.image.Image.{Image}
use Rattle.dw_image.specs.Images.{entries_in, name_in, name_place_in, sections_in, units_in}
use Rattle.dwv_c.specs.declared.meaning.Meaning.{Meaning}
use Rattle.dwv_c.specs.declared.meaning.Meaning.TheVariants.{Address, Block, Expression, Reference, Text, Wide}
use Rattle.dwv_c.specs.declared.places.Span.{Span}
use Rattle.dwv_c.specs.Meanings.{named_after, text_span}
use Rattle.dwv_c.specs.ValueRows.{IsMeaning, target_in, value_place, value_text}
use Rattle.dwv_c.specs.declared.places.Holders.{Holders}
use Rattle.dwv_c.specs.SectionPlaces.{IsNameSpan, nowhere}

-- what is known of a name: no value so far is under its attribute, or the value is the text that is there, or no text
abbrev pub IsNamed : (h : Holders) → Image → Entry → Option PlacedValue → Option (Option Span) → Type 0
IsNamed h i e None None = Unit {0}
IsNamed h i e (Some p) (Some s) =
    IsNameSpan h (value_text i e p.value) (value_place i e p.end p.value) (unwrap_or s nowhere)
IsNamed h i e _ _ = ⊥

-- ---- the text of a value, by what it means

module _ (h : Holders) (i : Image) (e : Entry) where
  no_text : (end : ℕ) (v : Datum) → ((base : Option ℕ) → text_of_value (sections_in i) base v ≡ None)
      → IsNameSpan h (value_text i e v) (value_place i e end v) nowhere
  no_text end v none =
      subst (λ (t : Option (List ℕ)). IsNameSpan h t (value_place i e end v) nowhere)
      (sym (go (slice_get (placed (units_in i)) e.unit))) refl
    where
      go : (o : Option PlacedUnit) → option_and_then (λ (p : PlacedUnit).
          text_of_value (sections_in i) (base_in (entries_in i) p DW_AT_str_offsets_base) v) o ≡ None
      go None = refl
      go (Some p) = none (base_in (entries_in i) p DW_AT_str_offsets_base)

  no_address : (v : Datum) (header : UnitHeader) (b base : Option ℕ) (n : ℕ)
      → address_of (sections_in i) header b v ≡ Some n → text_of_value (sections_in i) base v ≡ None
  no_address (address m) header b base n is = refl
  no_address (addr_index k) header b base n is = refl
  no_address _ header b base n is = absurd cc

  no_target : (v : Datum) (base : Option ℕ) (id : ℕ) → target_in i e v ≡ Some id
      → text_of_value (sections_in i) base v ≡ None
  no_target (ref_info offset) base id is = refl
  no_target (ref_unit offset) base id is = refl
  no_target (ref_sig signature) base id is = refl
  no_target _ base id is = absurd cc

  told_text : (end : ℕ) (v : Datum) (m : Meaning) → IsMeaning h i e end v m
      → IsNameSpan h (value_text i e v) (value_place i e end v) (unwrap_or (text_span m) nowhere)
  told_text end v (Text s) (t, p, is, at, there) =
      subst (λ (o : Option (List ℕ)). IsNameSpan h o (value_place i e end v) s) (sym is)
      (subst (λ (o : Option TextPlace). IsNameSpan h (Some t) o s) (sym at) there)
  told_text end v (Address n) is =
      let base_of = λ (p : PlacedUnit). base_in (entries_in i) p DW_AT_addr_base in
      no_text end v (λ base.
      option_and_then_some (λ (p : PlacedUnit). address_of (sections_in i) p.unit.header (base_of p) v)
      (slice_get (placed (units_in i)) e.unit) n is
      (λ p there told. no_address v p.unit.header (base_of p) base n told))
  told_text end v (Reference id) is = no_text end v (λ base. no_target v base id is)
  told_text end v (Block s) is = no_text end v (λ base. ap (text_of_value (sections_in i) base) is.0)
  told_text end v (Expression s) is = no_text end v (λ base. ap (text_of_value (sections_in i) base) is.0)
  told_text end v (Wide s) is = no_text end v (λ base. ap (text_of_value (sections_in i) base) is.0)
  told_text end v _ is = no_text end v (λ base. ap (text_of_value (sections_in i) base) is)

  -- ---- the name

  -- the value under a name's attribute among these, if there is that value
  abbrev pub name_among : List PlacedValue → Option PlacedValue
  name_among values = placed_value_in values DW_AT_name

  -- after one value more
  pub named_more : (done : List PlacedValue) (item : PlacedValue) (named : Option (Option Span)) (m : Meaning)
      → IsNamed h i e (name_among done) named → IsMeaning h i e item.end item.value m
      → IsNamed h i e (name_among (done ++ item ∷ [])) (named_after named item.attribute m)
  named_more done item named m so_far means =
      subst (λ (o : Option PlacedValue). IsNamed h i e o (named_after named item.attribute m))
      (sym (find-append (λ (p : PlacedValue). p.attribute == DW_AT_name) done (item ∷ [])))
      (go (name_among done) named so_far)
    where
      by_code : (b : Bool) → (item.attribute == DW_AT_name) ≡ b
          → IsNamed h i e (name_among (item ∷ [])) (named_after None item.attribute m)
      by_code true q = rw q (told_text item.end item.value m means)
      by_code false q = rw q tt

      go : (o : Option PlacedValue) (n : Option (Option Span)) → IsNamed h i e o n
          → IsNamed h i e (option_or o (name_among (item ∷ []))) (named_after n item.attribute m)
      go None None so_far = by_code (item.attribute == DW_AT_name) refl
      go None (Some s) so_far = absurd so_far
      go (Some p) None so_far = absurd so_far
      go (Some p) (Some s) so_far = so_far

  swapped : {A B C : Type 0} (f : A → B → Option C) (o : Option A) (w : Option B)
      → option_and_then (λ (a : A). option_and_then (f a) w) o
      ≡ option_and_then (λ (b : B). option_and_then (λ (a : A). f a b) o) w
  swapped f None None = refl
  swapped f None (Some b) = refl
  swapped f (Some a) None = refl
  swapped f (Some a) (Some b) = refl

  name_is : name_in i e ≡ option_and_then (value_text i e) (value_at_entry e DW_AT_name)
  unfolding name_in text_at
  name_is =
      swapped (λ (p : PlacedUnit). text_of_value (sections_in i) (base_in (entries_in i) p DW_AT_str_offsets_base))
      (slice_get (placed (units_in i)) e.unit) (value_at_entry e DW_AT_name)

  name_place_is : name_place_in i e
      ≡ option_and_then (λ (v : PlacedValue). value_place i e v.end v.value) (placed_value_at e DW_AT_name)
  unfolding name_place_in text_place_at
  name_place_is =
      swapped (λ (p : PlacedUnit) (v : PlacedValue).
      text_place_of (sections_in i) (base_in (entries_in i) p DW_AT_str_offsets_base) v.value v.end)
      (slice_get (placed (units_in i)) e.unit) (placed_value_at e DW_AT_name)

  -- after all values of the entry
  pub named_all : (named : Option (Option Span)) → IsNamed h i e (name_among (placed_values e)) named
      → IsNameSpan h (name_in i e) (name_place_in i e) (unwrap_or (option_flatten named) nowhere)
  named_all named is =
      rw (name_is, name_place_is, value_placed e DW_AT_name) (go (placed_value_at e DW_AT_name) named is)
    where
      go : (o : Option PlacedValue) (n : Option (Option Span)) → IsNamed h i e o n
          → IsNameSpan h (option_and_then (value_text i e) (option_map (λ (p : PlacedValue). p.value) o))
          (option_and_then (λ (p : PlacedValue). value_place i e p.end p.value) o)
          (unwrap_or (option_flatten n) nowhere)
      go None None is = refl
      go None (Some s) is = absurd is
      go (Some v) None is = absurd is
      go (Some v) (Some s) is = is
