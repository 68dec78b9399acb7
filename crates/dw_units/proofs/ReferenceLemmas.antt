-- References inside units: what is reached in their place; and the failures among all are those of each part alone.
use Rattle.std.proofs.Common.{rules, ◌≡◌, ℕ, ◌+◌, ◌<◌, ◌≤◌, ◌⊎◌, true, false, List, length, Option, Some, None, sym, ap, ◌∙◌, inl, inr, arith, ◌==◌, subst, eq-eqb, slice_get, eqb-true}
use Rattle.std.proofs.lemmas.Option.{get_or_from_slice_get, slice_get-get_or, slice_get_within}
use Rattle.dw_elf.specs.declared.sections.Sections.{Sections}
use Rattle.dw_entries.specs.Entries.{Entry, entries_of, PlacedUnit, placed}
use Rattle.dw_entries.proofs.EntryFacts.{entries_rise, length-placed, place_of, placed_of}
use Rattle.std.proofs.lemmas.List.Elements.{All-from_recursion}
use Rattle.dw_image.proofs.JoinLemmas.{none_at}
use Rattle.dw_links.specs.Targets.{reach_in_unit, reach_of, entry_at as offset_is}
use Rattle.dw_links.proofs.TargetLemmas.{reach_in_unit_is, at_reach_in_unit, entry_at_is, there_is, reach_within, entry_of, no_entry, type_unit_of}
use Rattle.dw_links.specs.References.{is_signature, permits, is_reference_value, NoSignatureThere, IsOtherThan, ReachesWrong, ReferenceFailsBy, ReferenceFails, HeaderFailures, AttributeFailures, ReferenceFailures, Datum}
use Rattle.dw_units.specs.ByUnit.{StaysAlone, is_offset, IsFirm}
use Rattle.dw_units.proofs.MovedEntries.{IsEntry, Units, total, IsIn, IsPart, moved_number, entry_at, entry_within, unit_at, unit_within, moved, none_moved, some_moved, unit_below}
use Rattle.std.proofs.lemmas.Grind.{common_steps}
use Rattle.dw_entries.specs.Lookups.{entry_head}
use Rattle.dw_forms.specs.declared.rule.Rule.TheVariants.{NoEntry, WrongKind, NotNextSibling, NoSignature}
use Rattle.dw_forms.specs.Rules.{number_of}
use Rattle.dw_entries.proofs.Firsts.{same_some, OffsetsRise, HasAttribute, Rule, Failure, HasNone}
use Rattle.dw_links.proofs.ListLookups.{there}
use Rattle.dw_units.specs.IndependentBatches.{HaveNoTypeUnit}
use Rattle.dw_units.proofs.TextLemmas.{AreOfParts, FailsBy, heads_of_parts}

-- what a value in a unit of these reaches
abbrev reach : Units → ℕ → Datum → Option ℕ
reach us = reach_of (entries_of us) (placed us)

module _ {s : Sections} {all : Units} {number first : ℕ} {units : Units} (whole : StaysAlone s all)
    (p : IsPart s all number first units) where
  -- an entry of one of the units
  own_entry : (i : ℕ) → i < total all → number ≤ (entry_of (entries_of all) i).unit
      → (entry_of (entries_of all) i).unit < number + length units
      → IsIn number first units i (entry_of (entries_of all) i)
  own_entry i within low high = search (rules, slice_get-get_or)

  rise : OffsetsRise (entries_of all)
  rise = entries_rise s.«abbrev».now all whole.are

  alone_rise : OffsetsRise (entries_of units)
  alone_rise = search (rules, entries_rise)

  module _ (j : ℕ) (below : j < length units) where
    at_same : (placed_of (placed all) (number + j)).at ≡ (placed_of (placed units) j).at
    at_same = ap (λ (u : PlacedUnit). u.at) (unit_at p j below)

    reached_in_place : (offset id : ℕ) → reach_in_unit (entries_of units) (placed units) j offset ≡ Some id
        → reach_in_unit (entries_of all) (placed all) (number + j) offset ≡ Some (first + id)
    reached_in_place offset id reached =
        let t = (at_reach_in_unit (entries_of units) (placed units) j offset id reached).target in
        let e_is = entry_at p id t.within in
        let begins : (entry_of (entries_of all) (first + id)).at ≡ (placed_of (placed all) (number + j)).at + offset =
        omega (arith, t.begins, (ap (λ (e : Entry). e.at) e_is), at_same) in
        let in_unit = ap (λ (e : Entry). e.unit) e_is ∙ ap (λ (n : ℕ). number + n) t.in_unit in
        let within = entry_within p id t.within in
        let unit = unit_within p j below in
        search (rules, rise, within, begins, in_unit, unit, reach_in_unit_is)

    none_in_place : (offset id : ℕ) → reach_in_unit (entries_of units) (placed units) j offset ≡ None
        → reach_in_unit (entries_of all) (placed all) (number + j) offset ≡ Some id → ⊥
    none_in_place offset id none reached =
        let t = (at_reach_in_unit (entries_of all) (placed all) (number + j) offset id reached).target in
        let of = t.in_unit in
        let i = own_entry id t.within (omega (arith, of)) (omega (arith, of, below)) in
        let e_is = get_or_from_slice_get (entries_of units) i.inner i.entry no_entry i.is_entry in
        let there = reach_in_unit_is (entries_of units) (placed units) j offset i.inner alone_rise
        (record {
          unit_within = omega (arith, below, length-placed units);
          target = record {
            within = slice_get_within _ _ _ i.is_entry;
            begins = omega (arith, t.begins, ap (λ (e : Entry). e.at) i.same, ap (λ (e : Entry). e.at) e_is, at_same);
            in_unit = omega (arith, ap (λ (e : Entry). e.unit) i.same, ap (λ (e : Entry). e.unit) e_is, of);
          };
        }) in
        let both = sym there ∙ none in cc

    info_in_place : (offset id : ℕ) → offset_is (entries_of units) offset ≡ Some id
        → offset_is (entries_of all) offset ≡ Some (first + id)
    info_in_place offset id reached =
        let t = there_is _ _ _ reached in
        let at = ap (λ (e : Entry). e.at) (entry_at p id t.within) ∙ t.begins in
        search (rules, rise, at, (entry_within p id t.within), entry_at_is)

    in_unit_moved : (offset : ℕ) → reach_in_unit (entries_of all) (placed all) (number + j) offset
        ≡ moved_number first (reach_in_unit (entries_of units) (placed units) j offset)
    in_unit_moved offset = search (rules, moved_number, reached_in_place, none_in_place)

    info_either : (offset : ℕ) (o : Option ℕ) → offset_is (entries_of units) offset ≡ o
        → (offset_is (entries_of all) offset ≡ moved_number first o) ⊎ (o ≡ None)
    info_either offset o reached = search (rules, info_in_place)

    -- what a value reaches is the same in the place of the units, or no entry of theirs starts at the offset
    reach_either : (v : Datum) → is_signature v ≡ false → (reach all (number + j) v
        ≡ moved_number first (reach units j v))
        ⊎ ((is_offset v ≡ true) × (reach units j v ≡ None))
    reach_either v stays = search (rules, info_either, in_unit_moved)

-- ---- the rules

pub eqb_moved : (at a b : ℕ) → (at + a == at + b) ≡ (a == b)
eqb_moved at a b = search (rules, eqb-true, eq-eqb)

-- a target is permitted in its place as alone
permits_moved : (number first : ℕ) (e t : Entry) (attribute : ℕ)
    → permits (entry_head (moved number first e)) attribute (moved number first t) ≡ permits (entry_head e) attribute t
permits_moved number first e t attribute = search rules

reached_below : (entries : List Entry) (units : List PlacedUnit) (unit : ℕ) (v : Datum) (k : ℕ)
    → reach_of entries units unit v ≡ Some k → k < length entries
reached_below entries units unit v k is = reach_within entries units unit v (Some k) (sym is)

no_signature : (units : List PlacedUnit) (v : Datum) → is_signature v ≡ false → NoSignatureThere units v → ⊥
no_signature units v stays fails = search rules

other_alone : (first : ℕ) (next alone : Option ℕ) → IsOtherThan (moved_number first next) (moved_number first alone)
    → IsOtherThan next alone
other_alone first next alone other = search (rules, some_moved)

other_in_place : (first : ℕ) (next alone : Option ℕ) → IsOtherThan next alone
    → IsOtherThan (moved_number first next) (moved_number first alone)
other_in_place first next alone other = search rules

next_none : (first : ℕ) (next reached : Option ℕ) → reached ≡ None → IsOtherThan next reached
    → (there : Option ℕ) → IsOtherThan (moved_number first next) there
next_none first next reached none apart there = search rules

one_least : (rule : Rule) → 1 ≤ number_of rule
one_least rule = search rules

module _ {s : Sections} {all : Units} {number first : ℕ} {units : Units} (whole : StaysAlone s all)
    (p : IsPart s all number first units) where
  wrong_alone : (e : Entry) (attribute : ℕ) (alone : Option ℕ) → ((k : ℕ) → alone ≡ Some k → k < total units)
      → ReachesWrong (entries_of all) (entry_head (moved number first e)) attribute
      (moved_number first alone) → ReachesWrong (entries_of units) (entry_head e) attribute alone
  wrong_alone e attribute alone below wrong =
      let (id, is_id, same) = some_moved first alone wrong.id wrong.reaches in
      let (t, is_t) = there (entries_of units) id (below id is_id) in
      let target = same_some _ _ _ wrong.is_target
      (ap (slice_get (entries_of all)) (sym same) ∙ p.get id t is_t) in
      let refused = sym (permits_moved number first e t attribute)
      ∙ ap (permits (entry_head (moved number first e)) attribute) (sym target) ∙ wrong.wrong in
      search (rules, is_id, is_t, refused)

  wrong_in_place : (e : Entry) (attribute : ℕ) (alone : Option ℕ)
      → ReachesWrong (entries_of units) (entry_head e) attribute alone
      → ReachesWrong (entries_of all) (entry_head (moved number first e)) attribute
      (moved_number first alone)
  wrong_in_place e attribute alone wrong =
      let there = p.get wrong.id wrong.target wrong.is_target in
      let reaches = ap (moved_number first) wrong.reaches in
      let refused = permits_moved number first e wrong.target attribute ∙ wrong.wrong in
      search (rules, there, reaches, refused)

  -- the rules at a value of an entry alone, and there in its place
  module _ (e : Entry) (attribute : ℕ) (v : Datum) (stays : is_signature v ≡ false) where
    abbrev alone : Option ℕ
    alone = reach units e.unit v

    abbrev Alone : Rule → Type 0
    Alone = ReferenceFailsBy (entries_of units) (placed units) (entry_head e) attribute v

    abbrev There : Rule → Type 0
    There = ReferenceFailsBy (entries_of all) (placed all) (entry_head (moved number first e)) attribute v

    abbrev IsReached : Type 0
    IsReached = reach all (number + e.unit) v ≡ moved_number first alone

    by_alone : (rule : Rule) → IsReached → There rule → Alone rule
    by_alone NoEntry reached (other, none) = search (rules, none_moved)
    by_alone WrongKind reached (inl form) = inl form
    by_alone WrongKind reached (inr wrong) =
        inr (wrong_alone e attribute alone (reached_below (entries_of units) (placed units) e.unit v)
        (subst (ReachesWrong (entries_of all) (entry_head (moved number first e)) attribute) reached wrong))
    by_alone NotNextSibling reached (sibling, other) = search (rules, other_alone, moved_number)
    by_alone NoSignature reached fails = absurd (no_signature (placed all) v stays fails)
    by_alone rule reached fails = absurd fails

    by_in_place : (rule : Rule) → IsReached → Alone rule → There rule
    by_in_place rule reached fails = search (rules, common_steps, no_signature, other_in_place, wrong_in_place)

    -- another rule than NoEntry fails at a reference that reaches nothing, whatever it reaches in its place
    by_none : (rule : Rule) → alone ≡ None → (rule ≡ NoEntry → ⊥) → Alone rule → There rule
    by_none rule none other fails = search (rules, next_none, no_signature)

  -- what fails in the place of the batch
  reference_down : (inner : ℕ) (e : Entry) → IsEntry units inner e
      → (attribute : ℕ) (v : Datum) (rule : Rule) → is_signature v ≡ false
      → ReferenceFails (entries_of all) (placed all) (entry_head (moved number first e))
      attribute v rule → FailsBy (ReferenceFails (entries_of units) (placed units) (entry_head e) attribute v) rule
  reference_down inner e is_e attribute v rule stays (reference, fails) =
      let below = unit_below s units p.stays inner e is_e in
      elim (reach_either whole p e.unit below v stays) [
        | inl reached ↦ (rule, (reference, by_alone e attribute v stays rule reached fails), omega arith)
        | inr (offset, none) ↦ (NoEntry, (reference, (stays, none)), one_least rule)
      ]

  -- what fails at the batch alone
  reference_up : (inner : ℕ) (e : Entry) → IsEntry units inner e
      → (position attribute : ℕ) (v : Datum) (rule : Rule) → HasAttribute e position attribute v
      → is_signature v ≡ false
      → ReferenceFails (entries_of units) (placed units) (entry_head e) attribute v rule → IsFirm units rule
      → ReferenceFails (entries_of all) (placed all) (entry_head (moved number first e))
      attribute v rule
  reference_up inner e is_e position attribute v rule has stays (reference, fails) firm =
      let below = unit_below s units p.stays inner e is_e in
      elim (reach_either whole p e.unit below v stays) [
        | inl reached ↦ (reference, by_in_place e attribute v stays rule reached fails)
        | inr (offset, none) ↦ (
          reference,
          by_none e attribute v stays rule none
              (λ is_none. let no : true ≡ false = sym offset ∙ firm is_none inner e is_e position attribute v has in cc)
              fails,
        )
      ]

no_header_in : (us : Units) → HaveNoTypeUnit us → (number : ℕ) (q : PlacedUnit)
    → slice_get (placed us) number ≡ Some q → type_unit_of q.unit.header.kind ≡ None
no_header_in us none number q is =
    let here = (place_of us number q is).is_unit in
    rw (get_or_from_slice_get us number q.unit q.unit here) at
    (All-from_recursion _ us none number q.unit
    (slice_get_within _ _ _ here))

-- no unit is a type unit, so no rule fails at a header
no_header_fails : (entries : List Entry) (us : Units) → HaveNoTypeUnit us → HasNone (HeaderFailures entries (placed us))
no_header_fails entries us none f fails = search (rules, no_header_in)

-- the failures at headers are none, so those at attributes are all
pub at_attributes : (s : Sections) (us : Units) → StaysAlone s us → (f : Failure) → ReferenceFailures us f
    → AttributeFailures (entries_of us) (placed us) f
at_attributes s us stays f (inl header) = absurd (no_header_fails (entries_of us) us stays.no_type_unit f header)
at_attributes s us stays f (inr attribute) = attribute

pub references_of_parts : (s : Sections) (May : Units → Type 0) (all : Units) → StaysAlone s all
    → AreOfParts s May ReferenceFailures all
references_of_parts s May all whole =
    heads_of_parts s May ReferenceFailures (λ units. ReferenceFails (entries_of units) (placed units)) all whole
    (λ us stays f. (at_attributes s us stays f, inr))
    (λ number first units p inner e is_e position attribute v rule has.
    let stays = p.stays.stays inner e is_e position attribute v has in (
      reference_down whole p inner e is_e attribute v rule stays,
      reference_up whole p inner e is_e position attribute v rule has stays,
    ))

-- ---- where the rules on references hold of the units

offset_refers : (v : Datum) → is_offset v ≡ true → is_reference_value v ≡ true
offset_refers v is = search rules

-- the values of an entry reach the same in its place
pub value_moved : {s : Sections} {all : Units} {number first : ℕ} {units : Units}
    → StaysAlone s all → (p : IsPart s all number first units) → HasNone (ReferenceFailures units)
    → (inner : ℕ) (e : Entry) → IsEntry units inner e
    → (position attribute : ℕ) (v : Datum) → HasAttribute e position attribute v → reach all (number + e.unit) v
    ≡ moved_number first (reach units e.unit v)
value_moved {s = s} {units = units} whole p none inner e is_e position attribute v has =
    let inside = p.stays.stays inner e is_e position attribute v has in
    elim (reach_either whole p e.unit (unit_below s units p.stays inner e is_e) v inside) [
      | inl same ↦ same
      | inr (offset, nothing) ↦
          absurd (none_at (entries_of units) (ReferenceFails _ (placed units))
          (λ f fails. none f (inr fails))
          inner e is_e position attribute v has NoEntry (offset_refers v offset, (inside, nothing)))
    ]
