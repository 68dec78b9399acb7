-- The first failure of a group of rules, where the failures among all units are those of each part alone: it is the
-- first of the first part that has one. So are those of classes, strings and addresses.
use Rattle.std.proofs.Common.{rules, ◌≡◌, ℕ, zero, suc, ◌+◌, ◌<◌, ◌≤◌, ◌⊎◌, List, [], ◌∷◌, ◌++◌, length, Some, sym, subst, inl, inr, arith, slice_get, Option, None, refl, ap, ◌∙◌, if◌then◌else◌, ◌==◌, option_and_then}
use Rattle.dw_entries.specs.declared.header.UnitHeader.{UnitHeader}
use Rattle.dw_entries.specs.declared.records.Record.{Record}
use Rattle.dw_entries.specs.Units.{AreFrom, AreUnits, units_bytes}
use Rattle.dw_entries.specs.declared.fault.PlainFault.{PlainFault}
use Rattle.dw_entries.specs.Records.{records_kept}
use Rattle.dw_entries.specs.Scanned.{record_of, records_of}
use Rattle.dw_entries.proofs.OrderLaws.{Rises, units_rise}
use Rattle.dw_entries.proofs.EntryFacts.{kept_get, first_entry, length-placed, Entry, entries_of, PlacedUnit, placed}
use Rattle.dw_image.specs.FirstFault.{Group, failures_of}
use Rattle.dw_units.specs.ByUnit.{IsFirm, StaysAlone}
use Rattle.dw_units.specs.BatchSections.{IsReady}
use Rattle.dw_units.proofs.MovedEntries.{IsEntry, Units, total, from_parts, IsIn, IsPart, behind, front, halves, part_of, moved_number, none_moved, moved, moved_unit, unit_below}
use Rattle.dw_entries.specs.Header.{version_of}
use Rattle.dw_forms.specs.Rules.{number_of}
use Rattle.dw_entries.specs.EntryRules.{HasAttribute, InList, values_of, Rule, Failure}
use Rattle.dw_entries.specs.Lookups.{entry_head, value_in}
use Rattle.dw_entries.proofs.Firsts.{same_some, Place, at_header, at_entry, at_attribute, Precedes, HasNone, IsFirst}
use Rattle.dw_entries.specs.Grammar.{Datum, Head}
use Rattle.dw_links.specs.RulesOfAttributes.{Rules, AtHead}
use Rattle.dw_links.specs.Classes.{ClassFails, ClassFailures}
use Rattle.dw_links.specs.Strings.{StringFailsIn, StringFails, StringFailures, Sections}
use Rattle.dw_links.proofs.ListLookups.{there}
use Rattle.dw_links.specs.Bases.{base_in, section_offset_in, section_offset_of}

-- ---- places

-- the place is the entry at this offset, or an attribute of it
abbrev pub IsOfEntry : ℕ → Place → Type 0
IsOfEntry at (at_header offset) = ⊥
IsOfEntry at (at_entry offset) = offset ≡ at
IsOfEntry at (at_attribute offset position) = offset ≡ at

-- nothing at an entry precedes what is at an earlier one
later_entry : (a b : ℕ) (f g : Failure) → a < b → IsOfEntry a f.place → IsOfEntry b g.place → Precedes g f → ⊥
later_entry a b f g less at_f at_g precedes = search rules

-- ---- the entries of units are in their bytes

rises_between : (low high : ℕ) (rs : List Record) → Rises low high rs → low ≤ high
rises_between low high [] p = p
rises_between low high (q ∷ rs) p = search (rules, (rises_between (suc q.at) high rs p.1))

rises_inside : (low high : ℕ) (rs : List Record) (k : ℕ) (r : Record) → Rises low high rs → slice_get rs k ≡ Some r
    → (low ≤ r.at) × (r.at < high)
rises_inside low high [] k r p is = absurd cc
rises_inside low high (q ∷ rs) zero r p is = search (rules, rises_between)
rises_inside low high (q ∷ rs) (suc k) r p is = search (rules, (rises_inside (suc q.at) high rs k r p.1 is))

entry_inside : (a : List ℕ) (at : ℕ) (units : Units) (k : ℕ) (e : Entry) → AreUnits a units
    → AreFrom at units → IsEntry units k e → (at ≤ e.at) × (e.at < at + length (units_bytes units))
entry_inside a at [] k e are from is = absurd cc
entry_inside a at (u ∷ us) k e are from is =
    let any : ℕ → ℕ → ℕ = λ number code. 0 in
    let all = u ∷ us in
    subst (λ (n : ℕ). (n ≤ e.at) × (e.at < n + length (units_bytes all))) from.0
    (rises_inside u.at (u.at + length (units_bytes all)) (records_of any all) k (record_of any e)
    (subst (Rises u.at (u.at + length (units_bytes all))) (sym (records_kept any all))
    (units_rise a any 0 0 u.at all are))
    (kept_get any all k e is))

-- ---- failures of a group

-- a failure among all is one of some units alone, or one of these alone is at its place and is named no later
pub record IsOfPart (Alone : Failure → Type 0) (f : Failure) : Type 0 where
  pub failure : Failure
  pub fails : Alone failure
  pub early : (h : Failure) → Precedes f h → Precedes failure h

-- it fails at an entry, so it is one of the units that have the entry
pub record IsAtEntry (s : Sections) (all : Units) (May : Units → Type 0)
    (Fails : Units → Failure → Type 0) (f : Failure) : Type 0 where
  pub which : ℕ
  pub entry : Entry
  pub is_entry : IsEntry all which entry
  pub stands : IsOfEntry entry.at f.place
  pub down : (number first : ℕ) (units : Units) → IsPart s all number first units → May units
      → IsIn number first units which entry → IsOfPart (Fails units) f

-- the failures among all are those of each part alone; one that depends on the other units apart
pub record AreOfParts (s : Sections) (May : Units → Type 0) (Fails : Units → Failure → Type 0)
    (all : Units) : Type 0 where
  pub at : (f : Failure) → Fails all f → IsAtEntry s all May Fails f
  pub up : (number first : ℕ) (units : Units) → IsPart s all number first units → May units
      → (g : Failure) → Fails units g → IsFirm units g.rule → Fails all g

abbrev pub AreOfGroup : Sections → Group → Units → Type 0
AreOfGroup s group = AreOfParts s (IsReady s group) (λ units. failures_of s units group)

module _ (s : Sections) (group : Group) where
  -- of two lists of units, a failure is one of the first or of the second
  of_two : (at : ℕ) (us more : Units) → AreFrom at (us ++ more) → IsReady s group us → IsReady s group more
      → AreOfGroup s group (us ++ more) → (f : Failure) → failures_of s (us ++ more) group f
      → IsOfPart (failures_of s us group) f ⊎ IsOfPart (failures_of s more group) f
  of_two at us more from one other are f fails =
      let i = are.at f fails in
      elim (halves s at us more from i.which i.entry i.is_entry) [
        | inl here ↦ inl (i.down 0 0 us (front s at us more from one.stays) one here)
        | inr here ↦
            inr (i.down (length us) (total us) more (behind s at us more from one.stays other.stays)
            other here)
      ]

  pub none_of_two : (at : ℕ) (us more : Units) → AreFrom at (us ++ more) → IsReady s group us
      → IsReady s group more → AreOfGroup s group (us ++ more) → HasNone (failures_of s us group)
      → HasNone (failures_of s more group) → HasNone (failures_of s (us ++ more) group)
  none_of_two at us more from one other are none none_behind f fails = search (rules, of_two)

module _ (s : Sections) (group : Group)
    (of : (us : Units) → IsReady s group us → AreOfGroup s group us) where
  -- a failure of units is at one of their entries
  at_one : (place : ℕ) (us : Units) → IsReady s group us → AreFrom place us → (f : Failure) → failures_of s us group f
      → (x : ℕ) × (place ≤ x) × (x < place + length (units_bytes us)) × IsOfEntry x f.place
  at_one place us ready from f fails =
      let i = (of us ready).at f fails in
      let (low, high) = entry_inside s.«abbrev».now place us i.which i.entry ready.stays.are from i.is_entry in
      (i.entry.at, low, high, i.stands)

  -- units have the first failure, if none fails before them
  pub first_of_group : (at : ℕ) (before units more : Units) (broken : PlainFault)
      → AreFrom at (before ++ (units ++ more)) → IsReady s group before → IsReady s group units
      → IsReady s group more → IsReady s group (units ++ more) → IsReady s group (before ++ (units ++ more))
      → HasNone (failures_of s before group) → IsFirm units broken.rule → IsFirst (failures_of s units group) broken
      → IsFirst (failures_of s (before ++ (units ++ more)) group) broken
  first_of_group at before units more broken from early one late rest all none firm first = record {
    failure = first.failure;
    fails =
        (of (before ++ (units ++ more)) all).up (length before) (total before) units
        (part_of s at before units more from early.stays one.stays) one first.failure first.fails
        (subst (IsFirm units) first.named.rule firm);
    named = first.named;
    first = λ g fails precedes.
        elim (of_two s group at before (units ++ more) from early rest (of (before ++ (units ++ more)) all) g fails) [
          | inl here ↦ none here.failure here.fails
          | inr here ↦ not_before here.failure here.fails (here.early first.failure precedes)
        ];
  }
    where
      place : ℕ
      place = at + length (units_bytes before)

      there : AreFrom place (units ++ more)
      there = (from_parts at before (units ++ more) from).1

      end : ℕ
      end = place + length (units_bytes units)

      parts : AreFrom place units × AreFrom end more
      parts = from_parts place units more there

      not_before : (g : Failure) → failures_of s (units ++ more) group g → Precedes g first.failure → ⊥
      not_before g fails precedes =
          elim (of_two s group place units more there one late (of (units ++ more) rest) g fails) [
            | inl here ↦ first.first here.failure here.fails (here.early first.failure precedes)
            | inr here ↦
                let (x, low, high, at_x) = at_one place units one parts.0 first.failure first.fails in
                let (y, past, top, at_y) = at_one end more late parts.1 here.failure here.fails in
                later_entry x y first.failure here.failure (omega (arith, high, past)) at_x at_y
                (here.early first.failure precedes)
          ]

-- ---- failures at attributes

-- one of these rules fails, and it is named no later than the other
abbrev pub FailsBy : (Rule → Type 0) → Rule → Type 0
FailsBy Fails rule = (least : Rule) × Fails least × (number_of least ≤ number_of rule)

-- a rule fails at an attribute of an entry in its place just where another does at the entry alone
abbrev pub FailAlike : Sections → (Units → Rules) → Units → Type 0
FailAlike s Fails all =
    (number first : ℕ) (units : Units) → IsPart s all number first units → (inner : ℕ) (e : Entry)
    → IsEntry units inner e → (position attribute : ℕ) (v : Datum) (rule : Rule) → HasAttribute e position attribute v
    → (Fails all (entry_head (moved number first e)) attribute v rule
    → FailsBy (Fails units (entry_head e) attribute v) rule)
    × (Fails units (entry_head e) attribute v rule → IsFirm units rule
    → Fails all (entry_head (moved number first e)) attribute v rule)

no_later : (f g : Failure) → f.place ≡ g.place → number_of g.rule ≤ number_of f.rule → (h : Failure) → Precedes f h
    → Precedes g h
no_later f g place early h precedes = search rules

-- a group's failures are each at an entry, by its number
abbrev pub AreAt : Sections → (Fails : Units → Failure → Type 0) → (Units → ℕ → Entry → Failure → Type 0) → Type 0
AreAt s Fails At = (us : Units) → StaysAlone s us → (f : Failure)
    → (Fails us f → InList (entries_of us) (At us) f) × (InList (entries_of us) (At us) f → Fails us f)

-- those among all are those of each part alone, if those at an entry in its place are those at the entry alone
pub items_of_parts : (s : Sections) (May : Units → Type 0) (Fails : Units → Failure → Type 0)
    (At : Units → ℕ → Entry → Failure → Type 0) (all : Units) → StaysAlone s all → AreAt s Fails At
    → ((node : ℕ) (e : Entry) (f : Failure) → At all node e f → IsOfEntry e.at f.place)
    → ((number first : ℕ) (units : Units) → IsPart s all number first units → May units
    → (inner : ℕ) (e : Entry) → IsEntry units inner e → (f : Failure)
    → (At all (first + inner) (moved number first e) f → IsOfPart (At units inner e) f)
    × (At units inner e f → IsFirm units f.rule → At all (first + inner) (moved number first e) f))
    → AreOfParts s May Fails all
items_of_parts s May Fails At all whole are stands alike = record {
  at = λ f fails.
      let here = (are all whole f).0 fails in
      record {
        which = here.number;
        entry = here.item;
        is_entry = here.is_item;
        stands = stands here.number here.item f here.fails;
        down = λ number first units p may i.
            let d = (alike number first units p may i.inner i.entry i.is_entry f).0
            (rw (sym i.begins, i.same) here.fails) in
            search (rules, d, (are units p.stays d.failure));
      };
  up = λ number first units p may g fails firm.
      let here = (are units p.stays g).0 fails in
      let same = (alike number first units p may here.number here.item here.is_item g).1 here.fails firm in
      let there = p.get here.number here.item here.is_item in search (rules, same, there, (are all whole g));
}

pub heads_of_parts : (s : Sections) (May : Units → Type 0) (Named : Units → Failure → Type 0)
    (Fails : Units → Rules) (all : Units) → StaysAlone s all
    → AreAt s Named (λ us node. AtHead (Fails us)) → FailAlike s Fails all → AreOfParts s May Named all
heads_of_parts s May Named Fails all whole are alike =
    items_of_parts _ _ _ _ _ whole are (λ node e f fails. rw fails.place refl)
    (λ number first units p may inner e is f. (
      λ fails.
          let (least, alone, early) = (alike number first units p inner e is fails.position f.attribute fails.value
          f.rule
          fails.has).0 fails.fails in
          let failure : Failure = record f { rule = least } in
          record { failure = failure; fails = search (rules, alone); early = no_later f failure refl early },
      λ fails firm. search (rules, alike),
    ))

-- of the head only its parent is asked
module _ (s : Sections) (header : UnitHeader) (strings addresses : Option ℕ) (number first : ℕ) (e : Entry)
    (attribute : ℕ) (v : Datum) (rule : Rule) where
  strings_in : StringFailsIn s header strings addresses (entry_head (moved number first e)) attribute v rule
      → StringFailsIn s header strings addresses (entry_head e) attribute v rule
  strings_in is = search (rules, none_moved)

  strings_in_place : StringFailsIn s header strings addresses (entry_head e) attribute v rule
      → StringFailsIn s header strings addresses (entry_head (moved number first e)) attribute v rule
  strings_in_place is = search (rules, moved_number)

module _ {s : Sections} {all : Units} {number first : ℕ} {units : Units}
    (p : IsPart s all number first units) where
  -- a unit of the batch, in its place
  placed_at : (e : Entry) (q r : PlacedUnit) → slice_get (placed units) e.unit ≡ Some q
      → slice_get (placed all) (number + e.unit) ≡ Some r → r ≡ moved_unit first q
  placed_at e q r is_q is_r = search (rules, same_some, (p.unit_get e.unit q is_q))

  -- the unit of an entry
  unit_at_hand : (inner : ℕ) (e : Entry) → IsEntry units inner e
      → (q : PlacedUnit) × (slice_get (placed units) e.unit ≡ Some q)
  unit_at_hand inner e is =
      there (placed units) e.unit (omega (arith, unit_below s units p.stays inner e is, length-placed units))

  -- ---- classes

  class_in_place : (e : Entry) (attribute : ℕ) (v : Datum) (rule : Rule)
      → ClassFails (placed units) (entry_head e) attribute v rule
      → ClassFails (placed all) (entry_head (moved number first e)) attribute v rule
  class_in_place e attribute v rule fails = search rules

  -- ---- strings and addresses

  -- the unit's bases are those of the unit in the batch alone
  base_same : (j : ℕ) (q : PlacedUnit) → slice_get (placed units) j ≡ Some q → (attribute : ℕ)
      → base_in (entries_of all) (moved_unit first q) attribute ≡ base_in (entries_of units) q attribute
  base_same j q is_q attribute =
      let among = first_entry all (number + j) (moved_unit first q) (p.unit_get j q is_q) in
      let alone = first_entry units j q is_q in
      let heads : among.entry.head ≡ alone.entry.head = among.is_first.head ∙ sym alone.is_first.head in
      let F : Option Entry → Option ℕ = λ o. if version_of q.unit.header.kind == 4 then None else option_and_then
      (λ (x : Entry). section_offset_of x attribute) o in
      let G : Head → Option ℕ = λ h. if version_of q.unit.header.kind == 4 then None
      else option_and_then section_offset_in (value_in (values_of h) attribute) in
      ap F among.is_entry ∙ ap G heads ∙ sym (ap F alone.is_entry)

module _ (s : Sections) (May : Units → Type 0) (all : Units) (whole : StaysAlone s all) where
  pub classes_of_parts : AreOfParts s May ClassFailures all
  classes_of_parts =
      heads_of_parts _ _ _ (λ units. ClassFails (placed units)) _ whole
      (λ us stays f. (λ fails. fails, λ fails. fails))
      (λ number first units p inner e is_e position attribute v rule has.
      let (q, is_q) = unit_at_hand p inner e is_e in (
        λ fails. let same = placed_at p e q fails.unit is_q fails.in_unit in (rule, search (rules, same), omega arith),
        λ fails firm. class_in_place p e attribute v rule fails,
      ))

  pub strings_of_parts : AreOfParts s May (StringFailures s) all
  strings_of_parts =
      heads_of_parts _ _ _ (λ units. StringFails s (entries_of units) (placed units)) _ whole
      (λ us stays f. (λ fails. fails, λ fails. fails))
      (λ number first units p inner e is_e position attribute v rule has.
      let (q, is_q) = unit_at_hand p inner e is_e in (
        λ fails.
            let same = placed_at p e q fails.unit is_q fails.in_unit in
            (rule, search (rules, same, strings_in, (base_same p e.unit q is_q)), omega arith),
        λ fails firm. search (rules, (base_same p), strings_in_place),
      ))
