-- The rules at the headers of type units, and the type of each signature. Where no rule on references fails, values lead
-- to entries.
use Rattle.std.proofs.Common.{rules, arith, ◌≡◌, ℕ, List, Option, Some, None, refl, sym, ◌+◌, Bool, true, false, ap, ◌∙◌, inl, inr, subst, cond, eq-or-lt_of_le, ◌⊎◌, ◌<◌, slice_get, is_some, nat_cmp, is_eq}
pub use Rattle.std.proofs.lemmas.Bool.{true_from_ne_false as true_unless}
use Rattle.std.proofs.lemmas.Option.{none-some, slice_get_within, slice_get-get_or, get_or_from_slice_get}
use Rattle.dw_forms.specs.Codes.{is_type_tag}
use Rattle.dw_forms.specs.declared.rule.Rule.TheVariants.{NoEntry, WrongKind, NotNextSibling, NoSignature, BadTypeOffset, SignatureTwice}
use Rattle.dw_entries.specs.declared.fault.PlainFault.{PlainFault}
use Rattle.dw_entries.specs.Units.{DebugUnit, Spells}
use Rattle.dw_entries.specs.EntriesAt.{IsEntryIn}
use Rattle.dw_entries.specs.EntryRules.{OffsetsRise, values_of, AtPlace}
pub use Rattle.dw_entries.proofs.EntryFacts.{entries_rise, Entry, PlacedUnit, entries_of, placed}
use Rattle.dw_forms.specs.declared.class.Class.TheVariants.{Reference}
use Rattle.dw_links.specs.Classes.{class_of}
use Rattle.dw_links.specs.LinkLaws.{HaveTargets, HaveTypes}
use Rattle.dw_links.proofs.HeldTexts.{found_value, value_at_entry, entry_head}
use Rattle.dw_links.specs.References.{HeaderFailures, permits, permits_form, IsOtherThan, is_reference_value, ReferenceFailsBy, TypeUnitFails, ReferenceFailures, IsSignedBefore, HasType, HeaderFails, AttributeFailures, Datum, ref_info, ref_unit, ref_sig}
pub use Rattle.dw_links.specs.Targets.{entry_at, reach_in_unit, reach_of, target_of, type_of_unit}
use Rattle.dw_links.proofs.TargetLemmas.{reach_in_unit_is, at_reach_in_unit, at_first_signed, none_signed, type_of_unit_is, reached_within, first_signed_is, no_entry, no_placed, entry_of, placed_of, type_unit_of, HasSignature, first_signed, HaveDistinctSignatures}
use Rattle.std.proofs.lemmas.Bool.Decides.{nat_tests}
use Rattle.std.specs.BTreeMap.{BTreeMap, get, is_at}
use Rattle.dw_entries.proofs.Firsts.{same_some, HasNone, Failure, Precedes, Names, IsFirst, IsLeast, Rule, at_header, at_attribute}
use Rattle.dw_entries.specs.declared.header.HeaderKind.{HeaderKind}
use Rattle.dw_entries.specs.declared.units.UnitHead.{UnitHead}
use Rattle.dw_entries.specs.Lookups.{unit_head}
use Rattle.dw_entries.specs.declared.header.HeaderKind.TheVariants.{TypeUnit}
use Rattle.dw_entries.proofs.FirstPlaces.{first_at_place, none_at_place}
use Rattle.dw_entries.proofs.RunLaws.{one_at, in_is_at}
use Rattle.dw_entries.proofs.NumberOrder.{three_ways}
use Rattle.dw_links.specs.SignedTypes.{IsSignedType, AreSignedBelow}

-- a unit of another kind has no type
no_type : (kind : HeaderKind) → ((signature type_offset : ℕ) → kind ≡ TypeUnit signature type_offset → ⊥)
    → type_unit_of kind ≡ None
no_type (TypeUnit signature type_offset) never = absurd (never signature type_offset refl)
no_type _ never = refl

-- the kind that is told of a unit
module _ (us : List DebugUnit) (number : ℕ) (told : UnitHead) (is : told ≡ unit_head (placed_of (placed us) number))
  where
    pub told_type : (k t : ℕ) → told.header.kind ≡ TypeUnit k t
        → type_unit_of (placed_of (placed us) number).unit.header.kind ≡ Some (k, t)
    told_type k t kind = sym (ap (λ (x : UnitHead). type_unit_of x.header.kind) is) ∙ ap type_unit_of kind

    pub told_none : ((k t : ℕ) → told.header.kind ≡ TypeUnit k t → ⊥)
        → type_unit_of (placed_of (placed us) number).unit.header.kind ≡ None
    told_none never = sym (ap (λ (x : UnitHead). type_unit_of x.header.kind) is) ∙ no_type told.header.kind never

at_key : (k q : ℕ) → is_eq (nat_cmp k q) ≡ true → k ≡ q
at_key k q is = grind (arith, nat_tests)

own_key : (k : ℕ) → is_eq (nat_cmp k k) ≡ true
own_key k = grind (arith, nat_tests)

module _ (units : List PlacedUnit) (s n : ℕ) (u : PlacedUnit) (is : slice_get units n ≡ Some u) where
  signed_so : (k t : ℕ) → type_unit_of u.unit.header.kind ≡ Some (k, t) → HasSignature units s n → k ≡ s
  signed_so k t kind has = search (rules, same_some)

  untyped_so : type_unit_of u.unit.header.kind ≡ None → HasSignature units s n → ⊥
  untyped_so kind has = search (rules, same_some)

module _ (entries : List Entry) (units : List PlacedUnit) (s n : ℕ) where
  abbrev Is : ℕ → Option ℕ → Type 0
  Is = IsSignedType entries units s

  -- a unit more changes nothing where it hasn't the signature
  kept : (o : Option ℕ) → Is n o → (HasSignature units s n → ⊥) → Is (n + 1) o
  kept None none other = search (rules, eq-or-lt_of_le)
  kept (Some id) found other = let less = found.1 in (found.0, omega arith, found.2, found.3)

  begun : (id : ℕ) → Is n None → HasSignature units s n → type_of_unit entries units n ≡ Some id
      → Is (n + 1) (Some id)
  begun id none has type = (n, omega arith, first_signed_is units s n has none, type)

  -- whether an earlier unit has the signature, by the table
  pub signed_before : (o : Option ℕ) → Is n o → is_some o ≡ true → IsSignedBefore units n s
  signed_before None none known = absurd cc
  signed_before (Some id) found known =
      record { earlier = found.0; before = found.1; has = at_first_signed units s found.0 found.2 }

  pub not_before : (o : Option ℕ) → Is n o → is_some o ≡ false → IsSignedBefore units n s → ⊥
  not_before None none unknown before = none before.earlier before.before before.has
  not_before (Some id) found unknown before = absurd cc

  none_known : (o : Option ℕ) → Is n o → (IsSignedBefore units n s → ⊥) → o ≡ None
  none_known None none never = refl
  none_known (Some id) found never = absurd (never (signed_before (Some id) found refl))

  new_at : (k id : ℕ) (b : Bool) (o p : Option ℕ) → b ≡ is_eq (nat_cmp k s) → p ≡ cond b (Some id) o → Is n o
      → (b ≡ true → o ≡ None) → (b ≡ true → HasSignature units s n) → (b ≡ false → HasSignature units s n → ⊥)
      → type_of_unit entries units n ≡ Some id → Is (n + 1) p
  new_at k id true o p test is before none has other type = search (rules, begun)
  new_at k id false o p test is before none has other type = search (rules, kept)

module _ (entries : List Entry) (units : List PlacedUnit) (n : ℕ) where
  pub other_unit : (u : PlacedUnit) (table : BTreeMap ℕ ℕ) → slice_get units n ≡ Some u
      → type_unit_of u.unit.header.kind ≡ None → AreSignedBelow entries units n table
      → AreSignedBelow entries units (n + 1) table
  other_unit u table is untyped before s =
      kept entries units s n (get nat_cmp table s) (before s) (untyped_so units s n u is untyped)

  pub new_signature : (k t id : ℕ) (u : PlacedUnit) (old new : BTreeMap ℕ ℕ) → slice_get units n ≡ Some u
      → type_unit_of u.unit.header.kind ≡ Some (k, t) → (IsSignedBefore units n k → ⊥)
      → ((q : ℕ) → get nat_cmp new q ≡ cond (is_at (nat_cmp k) q) (Some id) (get nat_cmp old q))
      → type_of_unit entries units n ≡ Some id
      → AreSignedBelow entries units n old → AreSignedBelow entries units (n + 1) new
  new_signature k t id u old new is kind unknown after type before s =
      search (rules, new_at, at_key, none_known, signed_so, own_key)

-- no other entry at the offset is a type
pub not_typed : (entries : List Entry) (number offset id : ℕ) → OffsetsRise entries
    → IsEntryIn entries number offset id → is_type_tag (entry_of entries id).head.decl.tag ≡ false
    → HasType entries number offset → ⊥
not_typed entries number offset id rise found tag has =
    let same = one_at entries offset has.id id rise (in_is_at entries number _ has.id has.is_type)
    (in_is_at entries number _ id found) in
    let both : true ≡ false = sym has.tag ∙ ap (λ (n : ℕ). is_type_tag (entry_of entries n).head.decl.tag) same ∙ tag
    in cc

module _ (entries : List Entry) (units : List PlacedUnit) (none : HasNone (HeaderFailures entries units)) where
  signed_twice : (s i j : ℕ) → i < j → HasSignature units s i → HasSignature units s j → ⊥
  signed_twice s i j less has_i has_j =
      none (record { rule = SignatureTwice; place = at_header has_j.unit.at; attribute = 0 })
      (record {
        number = j;
        item = has_j.unit;
        is_item = has_j.is_unit;
        fails = search (rules);
      })

  pub distinct_from : HaveDistinctSignatures units
  distinct_from s i j has_i has_j =
      elim (three_ways i j) [
        | inl (inl less) ↦ absurd (signed_twice s i j less has_i has_j)
        | inl (inr same) ↦ same
        | inr more ↦ absurd (signed_twice s j i more has_j has_i)
      ]

module _ (entries : List Entry) (units : List PlacedUnit) (number at signature t : ℕ) where
  abbrev Fails : Rule → Type 0
  Fails = TypeUnitFails entries units number at signature t

  -- a rule at the header of a type unit
  pub header_fails : (o : Option (ℕ × ℕ)) (rule : Rule) (broken : PlainFault) → o ≡ Some (signature, t)
      → IsLeast Fails (Some rule) → Names broken (record { rule = rule; place = at_header at; attribute = 0 })
      → IsFirst (AtPlace (at_header at) (HeaderFails entries units number at o)) broken
  header_fails o rule broken is least named = search (rules, first_at_place)

  pub header_passes : (o : Option (ℕ × ℕ)) → o ≡ Some (signature, t) → IsLeast Fails None
      → HasNone (AtPlace (at_header at) (HeaderFails entries units number at o))
  header_passes o is least =
      rw is (none_at_place (at_header at) (HeaderFails entries units number at (Some (signature, t))) least)

  -- an earlier unit has the signature
  pub least_twice : IsSignedBefore units number signature → IsLeast Fails (Some SignatureTwice)
  least_twice before = search (rules)

  module _ (first : IsSignedBefore units number signature → ⊥) where
    -- no type begins there, and no earlier unit has the signature
    pub least_type_offset : (HasType entries number (at + t) → ⊥) → IsLeast Fails (Some BadTypeOffset)
    least_type_offset untyped = search (rules)

    -- a type begins there, and no earlier unit has the signature
    pub none_at_header : HasType entries number (at + t) → IsLeast Fails None
    none_at_header typed = search (rules, typed)

-- headers come before entries
header_before : (a at position : ℕ) (f g : Failure) → f.place ≡ at_header a → g.place ≡ at_attribute at position
    → Precedes g f → ⊥
header_before a at position f g f_at g_at precedes = search (rules)

pub first_by_header : (entries : List Entry) (units : List PlacedUnit) (broken : PlainFault)
    → IsFirst (HeaderFailures entries units) broken
    → IsFirst (λ f. HeaderFailures entries units f ⊎ AttributeFailures entries units f) broken
first_by_header entries units broken first = search (rules, header_before)

is_told : (o : Option ℕ) → (o ≡ None → ⊥) → (n : ℕ) × (o ≡ Some n)
is_told None never = absurd (never refl)
is_told (Some n) never = (n, refl)

reference_value : (v : Datum) → class_of v ≡ Reference → is_reference_value v ≡ true
reference_value (ref_info n) is = refl
reference_value _ is = search rules

-- ---- what no failure says

module _ (us : List DebugUnit) (id : ℕ) (e : Entry) (attribute : ℕ) (v : Datum) (none : HasNone (ReferenceFailures us))
    (is : slice_get (entries_of us) id ≡ Some e) (value : value_at_entry e attribute ≡ Some v) where
  -- no rule fails at the attribute
  passes_reference : is_reference_value v ≡ true → (rule : Rule)
      → ReferenceFailsBy (entries_of us) (placed us) (entry_head e) attribute v rule → ⊥
  passes_reference reference rule fails =
      let (position, here) = found_value (values_of e.head) attribute v value in
      none (record { rule = rule; place = at_attribute e.at position; attribute = attribute })
      (inr (record {
        number = id;
        item = e;
        is_item = is;
        fails = record { position = position; value = v; has = here; place = refl; fails = (reference, fails) };
      }))

module _ (us : List DebugUnit) (none : HasNone (HeaderFailures (entries_of us) (placed us))) where
  module _ (number signature type_offset : ℕ) (p : PlacedUnit) (is : slice_get (placed us) number ≡ Some p)
      (kind : type_unit_of p.unit.header.kind ≡ Some (signature, type_offset)) where
    -- nor at the header of a type unit
    passes_header : (rule : Rule)
        → TypeUnitFails (entries_of us) (placed us) number p.at signature type_offset rule → ⊥
    passes_header rule fails =
        none (record { rule = rule; place = at_header p.at; attribute = 0 })
        (record { number = number; item = p; is_item = is; fails = search (rules) })

    -- the type of a type unit
    type_reached : OffsetsRise (entries_of us)
        → (id : ℕ) × (reach_in_unit (entries_of us) (placed us) number type_offset ≡ Some id)
    type_reached rise =
        is_told (reach_in_unit (entries_of us) (placed us) number type_offset)
        (λ nowhere. passes_header BadTypeOffset (inr (
          refl,
          λ has. none-some has.id
              (sym nowhere ∙ reach_in_unit_is (entries_of us) (placed us) number type_offset has.id rise
              (record {
                unit_within = slice_get_within (placed us) number p is;
                target = rw (get_or_from_slice_get (placed us) number p no_placed is) has.is_type;
              })),
        )))

  -- a signature reaches an entry
  pub by_signature : (unit signature : ℕ) (o : Option ℕ) → first_signed (placed us) signature ≡ o
      → OffsetsRise (entries_of us) → (((number : ℕ) → HasSignature (placed us) signature number → ⊥) → ⊥)
      → (id : ℕ) × (reach_of (entries_of us) (placed us) unit (ref_sig signature) ≡ Some id)
  by_signature unit signature None is rise never = search (rules, none_signed)
  by_signature unit signature (Some number) is rise never =
      let has = at_first_signed (placed us) signature number is in
      let (id, reached) = type_reached number signature has.type_offset has.unit has.is_unit has.signed rise in (
        id,
        rw is (type_of_unit_is (entries_of us) (placed us) number signature has.type_offset has.unit (Some id)
            has.is_unit has.signed reached),
      )

reached : (us : List DebugUnit) (id : ℕ) (e : Entry) (attribute : ℕ) (v : Datum) → HasNone (ReferenceFailures us)
    → slice_get (entries_of us) id ≡ Some e → value_at_entry e attribute ≡ Some v → OffsetsRise (entries_of us)
    → class_of v ≡ Reference → (id : ℕ) × (reach_of (entries_of us) (placed us) e.unit v ≡ Some id)
reached us id e attribute (ref_info offset) none is value rise class =
    is_told (entry_at (entries_of us) offset)
    (λ nowhere. passes_reference us id e attribute _ none is value refl NoEntry (refl, nowhere))
reached us id e attribute (ref_unit offset) none is value rise class =
    is_told (reach_in_unit (entries_of us) (placed us) e.unit offset)
    (λ nowhere. passes_reference us id e attribute _ none is value refl NoEntry (refl, nowhere))
reached us id e attribute (ref_sig signature) none is value rise class =
    by_signature us (λ f fails. none f (inl fails)) e.unit signature (first_signed (placed us) signature) refl rise
    (λ unsigned. passes_reference us id e attribute _ none is value refl NoSignature unsigned)
reached us id e attribute _ none is value rise class = absurd cc

-- a next sibling that is no other than the one that is reached
the_next : (next reached : Option ℕ) (id : ℕ) → reached ≡ Some id → (IsOtherThan next reached → ⊥) → next ≡ Some id
the_next None reached id here never = absurd (never tt)
the_next (Some n) reached id here never =
    let two : (id ≡ n → ⊥) → ⊥ = λ other. never (id, here, other) in
    ap Some (grind (arith, two))

pub have_targets : («abbrev» info : List ℕ) (us : List DebugUnit) → Spells «abbrev» us info
    → HasNone (ReferenceFailures us) → HaveTargets us
unfolding target_of
have_targets «abbrev» info us spells none id e is attribute v value class =
    let rise = entries_rise «abbrev» us spells.are in
    let passes = passes_reference us id e attribute v none is value (reference_value v class) in
    let (t, reaches) = reached us id e attribute v none is value rise class in
    let target = entry_of (entries_of us) t in
    let is_target = slice_get-get_or (entries_of us) t no_entry
    (reached_within (entries_of us) (placed us) e.unit v t reaches) in
    record {
      id = t;
      target = target;
      is_entry = is_target;
      is_target = rw value reaches;
      reaches = reaches;
      form = true_unless (permits_form (entry_head e) attribute v) (λ wrong. passes WrongKind (inl wrong));
      kind =
          true_unless (permits (entry_head e) attribute target)
          (λ wrong. passes WrongKind (inr
          (record { id = t; reaches = reaches; target = target; is_target = is_target; wrong = wrong })));
      sibling =
          λ sibling. the_next e.next (reach_of (entries_of us) (placed us) e.unit v) t reaches
          (λ other. passes NotNextSibling (sibling, other));
    }

pub have_types : («abbrev» info : List ℕ) (us : List DebugUnit) → Spells «abbrev» us info
    → HasNone (ReferenceFailures us) → HaveTypes us
have_types «abbrev» info us spells none =
    let headers : HasNone (HeaderFailures (entries_of us) (placed us)) = λ f fails. none f (inl fails) in
    record {
      distinct = distinct_from (entries_of us) (placed us) headers;
      types = λ number signature type_offset p is kind.
          let rise = entries_rise «abbrev» us spells.are in
          let (id, gives) = type_reached us headers number signature type_offset p is kind rise in
          let found = subst (λ (u : PlacedUnit). IsEntryIn (entries_of us) number (u.at + type_offset) id)
          (get_or_from_slice_get (placed us) number p no_placed is)
          (at_reach_in_unit (entries_of us) (placed us) number type_offset id gives).target in
          record {
            id = id;
            is_type = found;
            tag =
                true_unless (is_type_tag (entry_of (entries_of us) id).head.decl.tag)
                (λ other. passes_header us headers number signature type_offset p is kind BadTypeOffset
                (inr (refl, not_typed (entries_of us) number (p.at + type_offset) id rise found other)));
          };
    }
