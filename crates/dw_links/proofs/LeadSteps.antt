-- What is kept of an entry after a value: that no rule fails there, by what the value leads to. What is told of an entry
-- by its number: of the unit at hand, by where it starts after the unit's header, and which entries are declarations.
use Rattle.std.proofs.Common.{rules, ◌≡◌, ◌≢◌, ℕ, Bool, true, false, List, [], ◌∷◌, Option, Some, None, refl, sym, ap, ◌∙◌, map, arith, ◌==◌, ◌<◌, ◌≤◌, length, zero, suc, set, replicate, inl, inr, ◌⊎◌, ◌&&◌, not, is_some, slice_get, ne_eqb, eqb-true, unwrap_or}
use Rattle.std.proofs.lemmas.Option.{slice_get-get_or}
use mathlib.Core.Logic.{∥∥₁_elim}
use Rattle.dw_forms.specs.Codes.{DW_AT_type, DW_AT_sibling, DW_AT_specification, DW_AT_import, DW_AT_signature, DW_AT_declaration, is_type_tag}
use Rattle.dw_forms.specs.declared.leading_steps.Lead.TheVariants as lead
use Rattle.dw_forms.specs.declared.form.Form.TheVariants as form
use Rattle.dw_forms.specs.KnownValues.{known_flag, flag_in}
use Rattle.dw_forms.specs.Value.{Datum, ref_unit, str, str_index, addr_index}
use Rattle.dw_forms.specs.ValueFormats.{Val, laid_out}
use Rattle.dw_forms.specs.LeadingWalks.{lead_of}
use Rattle.dw_forms.proofs.LeadLaws.{lead_says}
use Rattle.dw_entries.specs.declared.entry.EntryHead.{EntryHead}
use Rattle.dw_entries.specs.EntryRules.{value_of}
use Rattle.dw_entries.specs.ByNumber.{no_entry, entry_of, unit_of}
use Rattle.dw_entries.specs.Failures.{IsLeast}
use Rattle.dw_entries.specs.Grammar.{Context, Attribute, AreAttributes, AttributeSpec, Declaration}
use Rattle.dw_entries.specs.Led.{IsLedBy, is_index_lead, item_of, Lead, Form}
use Rattle.dw_entries.specs.declared.led.Led.{Led}
use Rattle.dw_entries.specs.declared.led.Led.TheVariants as led
use Rattle.dw_entries.specs.Lookups.{entry_head, value_in}
use Rattle.dw_entries.specs.Units.{context_of}
use Rattle.dw_entries.proofs.HeadLaws.{head_fits}
use Rattle.dw_entries.proofs.RunLaws.{one_at}
use Rattle.dw_links.specs.UnitAtHand.{target_by, entries_followed, entry_with, entry_after, MayLink, IsTypeAfter, IsSiblingAfter, IsDeclaredAfter, LeadsWell, IsLinkable, MayAsk, UnitLinks}
use Rattle.dw_links.specs.EntryLinks.{kept_after, KeepsAt}
use Rattle.dw_links.specs.References.{is_declared, is_true, is_reference_value, permits, permits_form}
use Rattle.dw_links.proofs.RuleGroups.{least_none, right_sibling, all_entries, all_units, units_of, Entries, Entry}
use Rattle.dw_links.proofs.LinkedEntries.{true_unless, entries_rise, reach_in_unit}
use Rattle.dw_links.proofs.TargetLemmas.{reached_within}
use Rattle.dw_links.proofs.UnitToAll.{least_by_texts, ends_within, FailsByTexts}
use Rattle.std.specs.Bool.{OnTrue}
use Rattle.dw_entries.proofs.UnitRanges.{unit_in_range}
use Rattle.dw_links.proofs.ClassLemmas.{unit_there}
use Rattle.std.proofs.lemmas.List.{length-set, length-replicate}
use Rattle.dw_links.specs.DeclaredEntries.{KeepsDeclared}

-- nothing is kept of an attribute that is no type
kept_same : (before : Option (Option ℕ)) (attribute : ℕ) (reached : Option ℕ) → attribute ≢ DW_AT_type
    → before ≡ kept_after before attribute reached
kept_same (Some target) attribute reached other = refl
kept_same None attribute reached other = rw (ne_eqb attribute DW_AT_type other) refl

-- ---- the index of a string, of one byte or of two

index_says : (spec : AttributeSpec) (l : Lead) → lead_of spec ≡ l → is_index_lead l ≡ true
    → spec.attribute ≢ DW_AT_type
index_says spec lead.Index1 says is = (lead_says spec lead.Index1 says).1
index_says spec lead.Index2 says is = (lead_says spec lead.Index2 says).1
index_says spec _ says is = absurd cc

-- ---- a flag that is known without a value

flag_value : (version size : ℕ) (f : Form) (bytes : List ℕ) (v : Datum) → known_flag f ≡ Some true
    → Val version f size bytes v → is_true (Some v) ≡ true
unfolding laid_out
flag_value version size form.FlagPresent bytes v known p = ap (λ (d : Datum). is_true (Some d)) p.1
flag_value version size _ bytes v known p = absurd cc

never_false : (x : Context) (specs : List AttributeSpec) (bs : List Attribute) → AreAttributes x specs bs
    → flag_in DW_AT_declaration specs ≡ Some true → is_true (value_in (map value_of bs) DW_AT_declaration) ≡ false → ⊥
never_false x [] bs are known not_true = absurd cc
never_false x (s ∷ specs) [] are known not_true = are
never_false x (s ∷ specs) (b ∷ bs) are known not_true =
    by_code (never_false x specs bs are.1) (s.attribute == DW_AT_declaration) refl
  where
    by_code : (flag_in DW_AT_declaration specs ≡ Some true
        → is_true (value_in (map value_of bs) DW_AT_declaration) ≡ false → ⊥) → (t : Bool)
        → (s.attribute == DW_AT_declaration) ≡ t → ⊥
    by_code others true e =
        let code : (b.code == DW_AT_declaration) ≡ true = ap (λ (n : ℕ). n == DW_AT_declaration) are.0.code ∙ e in
        let flag : known_flag s.form ≡ Some true = rw e at known in
        let value : is_true (Some b.value) ≡ false = rw code at not_true in
        ∥∥₁_elim are.0.value (λ p q. absurd p)
        (λ v. let both : true ≡ false = sym (flag_value x.version x.address_size s.form b.bytes b.value flag v)
        ∙ value in cc)
    by_code others false e =
        let code : (b.code == DW_AT_declaration) ≡ false = ap (λ (n : ℕ). n == DW_AT_declaration) are.0.code ∙ e in
        others (rw e at known) (rw code at not_true)

-- an entry is a declaration where its own declaration says so
pub declared_entry : (entries : Entries) (t : ℕ) → t < length (all_entries entries)
    → flag_in DW_AT_declaration (entry_of (all_entries entries) t).head.decl.attributes ≡ Some true
    → is_declared (entry_of (all_entries entries) t) ≡ true
declared_entry entries t below known =
    let e = entry_of (all_entries entries) t in
    let stands = head_fits _ _ (units_of entries) t e entries.scanned.1.spells
    (slice_get-get_or (all_entries entries) t no_entry below) in
    true_unless (is_declared e) (never_false (context_of (unit_of (units_of entries) e.unit)) e.head.decl.attributes
    e.head.attributes stands.is.attributes known)

-- ---- usual values, at which no rule fails

both_true : (a b : Bool) → a ≡ false → b ≡ true → true ≡ (not a && b)
both_true false true is_a is_b = refl
both_true false false is_a is_b = absurd cc
both_true true b is_a is_b = absurd cc

module _ (it : UnitLinks) (id : ℕ) (may : MayLink it id) (before : Option (Option ℕ)) where
  -- a string or an address
  text_keeps : (attribute : ℕ) (v : Datum)
      → ((head : EntryHead) → IsLeast (FailsByTexts it.texts head attribute v) None) → is_reference_value v ≡ false
      → attribute ≢ DW_AT_type → KeepsAt it id attribute v before before
  text_keeps attribute v none no_reference other =
      let head = entry_head (entry_with it id) in (
        target_by (entries_followed it) head v,
        record {
          strings =
              least_by_texts (entries_followed it) it.texts head may.linkable.texts may.in_unit attribute v None
              (none head);
          references = λ rule fails. let both : true ≡ false = sym fails.0 ∙ no_reference in cc;
          is_target = refl;
        },
        kept_same before attribute _ other,
      )

  -- a reference to an entry that is permitted
  reference_keeps : (attribute offset t : ℕ) (after : Option (Option ℕ)) → entry_after it offset ≡ Some t
      → after ≡ kept_after before attribute (Some t)
      → true ≡ permits_form (entry_head (entry_with it id)) attribute (ref_unit offset)
      → true ≡ permits (entry_head (entry_with it id)) attribute (entry_with it t)
      → (attribute ≡ DW_AT_sibling → (entry_with it id).next ≡ Some t)
      → KeepsAt it id attribute (ref_unit offset) before after
  reference_keeps attribute offset t after reaches kept formed kind next =
      let entries = entries_followed it in
      let e = entry_with it id in
      let there : target_by entries (entry_head e) (ref_unit offset)
      ≡ Some t = ap (λ (u : ℕ). reach_in_unit (all_entries entries) (all_units entries) u offset) may.in_unit
      ∙ reaches in (
        Some t,
        record {
          strings = λ rule fails. fails.fails;
          references =
              least_none (all_entries entries) (all_units entries) (entry_head e) attribute (ref_unit offset) t there
              formed kind
              (λ p. right_sibling e.next (target_by entries (entry_head e) (ref_unit offset)) t there (next p.0) p.1);
          is_target = sym there;
        },
        kept,
      )

  pub type_keeps : (offset t : ℕ) (after : Option (Option ℕ)) → IsTypeAfter it offset t
      → after ≡ kept_after before DW_AT_type (Some t) → KeepsAt it id DW_AT_type (ref_unit offset) before after
  type_keeps offset t after has kept =
      reference_keeps DW_AT_type offset t after has.reaches kept refl (sym has.is_type)
      (λ no. absurd (omega (arith, no)))

  sibling_keeps : (offset : ℕ) → IsSiblingAfter it id offset
      → KeepsAt it id DW_AT_sibling (ref_unit offset) before before
  sibling_keeps offset has =
      reference_keeps DW_AT_sibling offset has.target before has.reaches
      (kept_same before DW_AT_sibling (Some has.target) (λ no. omega (arith, no))) refl refl (λ no. has.is_next)

  specification_keeps : (offset : ℕ) → IsDeclaredAfter it id offset
      → KeepsAt it id DW_AT_specification (ref_unit offset) before before
  specification_keeps offset has =
      let es = all_entries (entries_followed it) in
      let rise = entries_rise _ (units_of (entries_followed it)) (entries_followed it).scanned.1.spells.are in
      let within = reached_within _ _ it.texts.unit (ref_unit offset) has.target has.reaches in
      reference_keeps DW_AT_specification offset has.target before has.reaches
      (kept_same before DW_AT_specification (Some has.target) (λ no. omega (arith, no))) refl
      (both_true ((entry_with it has.target).at == (entry_with it id).at) (is_declared (entry_with it has.target))
      (ne_eqb (entry_with it has.target).at (entry_with it id).at
      (λ same. has.other (one_at es (entry_with it id).at has.target id rise
      (record { within = within; begins = same }) (record { within = may.within; begins = refl }))))
      has.declared)
      (λ no. absurd (omega (arith, no)))

  entry_keeps : (attribute offset t : ℕ) → attribute ≢ DW_AT_type → attribute ≢ DW_AT_sibling
      → attribute ≢ DW_AT_specification → attribute ≢ DW_AT_import → attribute ≢ DW_AT_signature
      → entry_after it offset ≡ Some t
      → KeepsAt it id attribute (ref_unit offset) before before
  entry_keeps attribute offset t no_type no_sibling no_specification no_import no_signature reaches =
      search (rules, reference_keeps, kept_same, ne_eqb)

  -- a value at which no rule fails
  pub well_keeps : (it_leads : Led) (spec : AttributeSpec) → IsLedBy it_leads spec → LeadsWell it id it_leads
      → KeepsAt it id (item_of it_leads).0 (item_of it_leads).1 before before
  well_keeps (led.Sibling offset) spec is well = sibling_keeps offset well
  well_keeps (led.Specification offset) spec is well = specification_keeps offset well
  well_keeps (led.Entry attribute offset) spec is well =
      let (is_form, no_type, no_sibling, no_specification, no_import, no_signature) =
      lead_says spec lead.Entry is.has_lead in
      rw (← is.has_code) (entry_keeps spec.attribute offset well.0 no_type no_sibling no_specification no_import
      no_signature well.1)
  well_keeps (led.Text attribute offset) spec is well =
      rw (← is.has_code) (text_keeps spec.attribute (str offset) (λ head. well) refl
      (lead_says spec lead.Text is.has_lead).1)
  well_keeps (led.Index attribute index) spec is well =
      rw (← is.has_code) (text_keeps spec.attribute (str_index index) (λ head. well) refl
      (index_says spec (lead_of spec) refl is.has_lead))
  well_keeps (led.Address attribute index) spec is well =
      rw (← is.has_code) (text_keeps spec.attribute (addr_index index) (λ head. well) refl
      (lead_says spec lead.Address is.has_lead).1)
  well_keeps _ spec is well = absurd well

-- the entry with a number is asked as its head says
pub may_ask : (it : UnitLinks) (id : ℕ) (entry : Entry) (head : EntryHead) → MayLink it id → entry ≡ entry_with it id
    → head ≡ entry_head entry → MayAsk it head
may_ask it id entry head may found told = record {
  linkable = may.linkable;
  in_unit = ap (λ h. h.unit) told ∙ ap (λ e. e.unit) found ∙ may.in_unit;
}

pub after_within : (it : UnitLinks) (offset target : ℕ) → entry_after it offset ≡ Some target
    → target < length (all_entries (entries_followed it))
after_within it offset target reaches =
    reached_within (all_entries (entries_followed it)) (all_units (entries_followed it)) it.texts.unit
    (ref_unit offset) target reaches

pub type_after : (it : UnitLinks) (offset target : ℕ) → entry_after it offset ≡ Some target → (d : Declaration)
    → d ≡ (entry_with it target).head.decl → true ≡ is_type_tag d.tag → IsTypeAfter it offset target
type_after it offset target reaches d told typed = record {
  reaches = reaches;
  is_type = ap (λ (x : Declaration). is_type_tag x.tag) (sym told) ∙ sym typed;
}

pub declared_after : (it : UnitLinks) (id offset target : ℕ) → entry_after it offset ≡ Some target → target ≢ id
    → (d : Declaration) → d ≡ (entry_with it target).head.decl
    → (known : Option Bool) → known ≡ flag_in DW_AT_declaration d.attributes
    → OnTrue (unwrap_or known false) (IsDeclaredAfter it id offset)
declared_after it id offset target reaches other d told (Some true) known =
    search (rules, declared_entry, after_within)
declared_after it id offset target reaches other d told (Some false) known = tt
declared_after it id offset target reaches other d told None known = tt

pub sibling_after : (it : UnitLinks) (id offset next target number other : ℕ) → Some next ≡ (entry_with it id).next
    → Some target ≡ entry_after it offset → number ≡ target → other ≡ next
    → OnTrue (number == other) (IsSiblingAfter it id offset)
sibling_after it id offset next target number other told reaches is_target is_next = go (number == other) refl
  where
    go : (same : Bool) → (number == other) ≡ same → OnTrue same (IsSiblingAfter it id offset)
    go false e = tt
    go true e = record {
      target = next;
      reaches = sym reaches ∙ ap (λ (k : ℕ). Some k) (sym is_target ∙ eqb-true number other e ∙ is_next);
      is_next = sym told;
    }

pub entry_is_after : (it : UnitLinks) (offset : ℕ) (found : Option ℕ) → found ≡ entry_after it offset
    → OnTrue (is_some found) ((t : ℕ) × (entry_after it offset ≡ Some t))
entry_is_after it offset (Some t) reaches = (t, sym reaches)
entry_is_after it offset None reaches = tt

-- an entry in the range of the unit at hand may be linked
pub may_link : (it : UnitLinks) (id : ℕ) → IsLinkable it → it.range.0 ≤ id → id < it.range.1 → MayLink it id
may_link it id linkable low high = search (rules, unit_there, ends_within, unit_in_range, slice_get-get_or)

-- an item of a list of which one was set is the new one, or was there
set_get : {X : Type 0} (xs : List X) (i j : ℕ) (x y : X) → slice_get (set xs i x) j ≡ Some y
    → ((i ≡ j) × (x ≡ y)) ⊎ (slice_get xs j ≡ Some y)
set_get [] i j x y is = inr is
set_get (z ∷ xs) zero zero x y is = inl (refl, cc)
set_get (z ∷ xs) zero (suc j) x y is = inr is
set_get (z ∷ xs) (suc i) zero x y is = inr is
set_get (z ∷ xs) (suc i) (suc j) x y is =
    elim (set_get xs i j x y is) [ inl here ↦ inl (ap suc here.0, here.1) | inr there ↦ inr there ]

-- one entry more is known
pub one_more_known : (entries : Entries) (kept new : List (Option Bool)) (id number : ℕ) (declared : Bool)
    → KeepsDeclared entries kept → id < length (all_entries entries) → number ≡ id
    → declared ≡ is_declared (entry_of (all_entries entries) id)
    → new ≡ set kept number (Some declared) → KeepsDeclared entries new
one_more_known entries kept new id number declared keeps below is read same = record {
  all = ap length same ∙ length-set kept number (Some declared) ∙ keeps.all;
  right = λ j known at.
      elim (set_get kept number j (Some declared) (Some known)
      (ap (λ (xs : List (Option Bool)). slice_get xs j) (sym same) ∙ at)) [
        | inl here ↦
            let some : Some declared ≡ Some known = here.1 in
            let known_is : known ≡ declared = cc in
            known_is ∙ read ∙ ap (λ (n : ℕ). is_declared (entry_of (all_entries entries) n)) (sym is ∙ here.0)
        | inr there ↦ keeps.right j known there
      ];
}

-- none is known of any entry
none_known : (n j : ℕ) (known : Bool) → slice_get (replicate n None) j ≡ Some (Some known) → ⊥
none_known zero j known is = absurd cc
none_known (suc n) zero known is = absurd cc
none_known (suc n) (suc j) known is = none_known n j known is

pub keeps_none : (entries : Entries) (kept : List (Option Bool)) (n : ℕ) → n ≡ length (all_entries entries)
    → kept ≡ replicate n None → KeepsDeclared entries kept
keeps_none entries kept n all same = search (rules, length-replicate, none_known)
