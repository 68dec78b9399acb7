-- The rule on classes, by declarations and by values, and what the form of a value says of it.
use Rattle.std.proofs.Common.{rules, ◌≡◌, ℕ, Bool, true, false, List, Option, Some, None, refl, ap, sym, ◌∙◌, ◌⊎◌, inl, inr, subst, ◌<◌, length, arith, if◌then◌else◌, nat_eq, ◌==◌, slice_get}
use Rattle.std.proofs.lemmas.Bool.{eq-eqb, not-false, or_parts}
use Rattle.std.proofs.lemmas.Option.{slice_get-get_or}
use mathlib.Core.Logic.{∥∥₁_elim}
use Rattle.dw_forms.specs.declared.class.Class.{Class}
use Rattle.dw_forms.specs.declared.form.Form.{Form}
use Rattle.dw_forms.specs.Codes.{DW_AT_type, DW_AT_str_offsets_base, DW_AT_addr_base}
use Rattle.dw_forms.specs.declared.form.Form.TheVariants as form
use Rattle.dw_forms.specs.FormCodes.{may_lead_out, may_refer}
use Rattle.dw_forms.specs.ValueFormats.{Val, laid_out}
use Rattle.dw_forms.specs.Classes.{class_of, allows, allows_in, is_open_in}
use Rattle.dw_forms.specs.FormTable.{form_class}
use Rattle.dw_entries.specs.declared.entries.Entries.{Entries}
use Rattle.dw_entries.specs.declared.header.UnitHeader.{UnitHeader}
use Rattle.dw_entries.specs.ByNumber.{no_placed, placed_of}
use Rattle.dw_entries.specs.Leading.{DoesNotLead, AttributeSpec}
use Rattle.dw_forms.specs.declared.rule.Rule.TheVariants.{WrongClass}
use Rattle.dw_entries.specs.Header.{version_of}
use Rattle.dw_entries.specs.Units.{DebugUnit, Spells}
use Rattle.dw_entries.specs.Failures.{IsLeast, Rule}
use Rattle.dw_entries.specs.PassedAttributes.{IsNotOpen}
use Rattle.dw_entries.proofs.HeadLaws.{head_fits}
use Rattle.dw_entries.proofs.EntryFacts.{length-placed}
use Rattle.dw_entries.specs.Views.{sections_of, all_entries, Entry, PlacedUnit, entries_of, placed}
use Rattle.dw_links.specs.UnitAtHand.{FailsByText, FailsByTarget}
use Rattle.dw_links.specs.Strings.{StringFailsIn, Sections, base_in}
pub use Rattle.dw_links.specs.Classes.{ClassFails}
use Rattle.dw_links.specs.RulesOfAttributes.{NeverFailsAt, EntryHead}
use Rattle.dw_links.specs.References.{is_reference_value, Datum}

-- ---- its class

pub class_by_form : (version size : ℕ) (f : Form) (bytes : List ℕ) (v : Datum) (c : Class) → form_class f ≡ Some c
    → Val version f size bytes v → class_of v ≡ c
unfolding laid_out
class_by_form version size form.FlagPresent bytes v c is p = search rules
class_by_form version size _ bytes v c is p = search rules

-- ---- that it does not lead elsewhere

-- what an attribute that does not lead elsewhere is not
pub record Leads (spec : AttributeSpec) : Type 0 where
  pub no_way_out : may_lead_out spec.form ≡ false
  pub no_reference : may_refer spec.form ≡ false
  pub no_type : (spec.attribute == DW_AT_type) ≡ false
  pub no_str_base : (spec.attribute == DW_AT_str_offsets_base) ≡ false
  pub no_addr_base : (spec.attribute == DW_AT_addr_base) ≡ false

pub leads : (spec : AttributeSpec) → DoesNotLead spec → Leads spec
leads spec not = search (rules, or_parts)

pub other_code : (a b : ℕ) → (a == b) ≡ false → a ≡ b → ⊥
other_code a b not same =
    let both : (a == b) ≡ true = ap (λ (n : ℕ). n == b) same ∙ eq-eqb b b refl in
    let no : true ≡ false = sym both ∙ not in cc

-- it is no string, no address and no base
module _ (sections : Sections) (header : UnitHeader) (strings addresses : Option ℕ) (head : EntryHead) (a : ℕ)
    (rule : Rule) where
  abbrev Fails : Datum → Type 0
  Fails v = StringFailsIn sections header strings addresses head a v rule

  no_text : (version size : ℕ) (f : Form) (bytes : List ℕ) (v : Datum) → may_lead_out f ≡ false
      → ((a ≡ DW_AT_str_offsets_base) ⊎ (a ≡ DW_AT_addr_base) → ⊥) → Val version f size bytes v → Fails v → ⊥
  unfolding laid_out
  no_text version size form.SecOffset bytes v none no_base p fails =
      elim (subst Fails p.2 fails).2 [ inl str ↦ no_base (inl str.0) | inr addr ↦ no_base (inr addr.0) ]
  no_text version size _ bytes v none no_base p fails = search rules

pub passes_texts : (entries : Entries) (spec : AttributeSpec) → DoesNotLead spec
    → NeverFailsAt (FailsByText entries) spec
passes_texts entries spec not x a is head rule fails =
    let l = leads spec not in
    let unit = fails.unit in
    ∥∥₁_elim is.value (λ p q. absurd p)
    (λ v. no_text (sections_of entries) unit.unit.header (base_in (all_entries entries) unit DW_AT_str_offsets_base)
    (base_in (all_entries entries) unit DW_AT_addr_base) head a.code rule x.version x.address_size spec.form a.bytes
    a.value l.no_way_out
    (λ base. elim base [
      | inl str ↦ other_code _ _ l.no_str_base (sym is.code ∙ str)
      | inr addr ↦ other_code _ _ l.no_addr_base (sym is.code ∙ addr)
    ]) v fails.fails)

-- it is no reference
no_reference : (version size : ℕ) (f : Form) (bytes : List ℕ) (v : Datum) → may_refer f ≡ false
    → Val version f size bytes v → is_reference_value v ≡ false
unfolding laid_out
no_reference version size form.FlagPresent bytes v none p = ap is_reference_value p.1
no_reference version size _ bytes v none p = search rules

pub passes_targets : (entries : Entries) (spec : AttributeSpec) → DoesNotLead spec
    → NeverFailsAt (FailsByTarget entries) spec
passes_targets entries spec not x a is head rule fails =
    ∥∥₁_elim is.value (λ p q. absurd p)
    (λ v. let both : true ≡ false = sym fails.0
    ∙ no_reference x.version x.address_size spec.form a.bytes a.value (leads spec not).no_reference v in cc)

true_by_both : (b d e : Bool) → e ≡ true → (if b then (if d then true else e) else e) ≡ true
true_by_both true true e is = refl
true_by_both true false e is = is
true_by_both false d e is = is

allowed_in : (version attribute : ℕ) (c : Class) → allows attribute c ≡ true → allows_in version attribute c ≡ true
allowed_in version attribute c is = true_by_both (nat_eq version 4) _ (allows attribute c) is

-- an attribute whose form has a permitted class
pub class_passes : (units : List PlacedUnit) (spec : AttributeSpec) (c : Class) → form_class spec.form ≡ Some c
    → allows spec.attribute c ≡ true → NeverFailsAt (ClassFails units) spec
class_passes units spec c form ok x a is head rule fails =
    ∥∥₁_elim is.value (λ p q. absurd p)
    (λ v.
    let class : class_of a.value ≡ c = class_by_form x.version x.address_size spec.form a.bytes a.value c form v in
    let both : allows_in (version_of fails.unit.unit.header.kind) spec.attribute c ≡ false =
    ap (λ (k : Class). allows_in (version_of fails.unit.unit.header.kind) spec.attribute k) (sym class)
    ∙ ap (λ (code : ℕ). allows_in (version_of fails.unit.unit.header.kind) code (class_of a.value)) (sym is.code)
    ∙ fails.class in
    let no : true ≡ false = sym (allowed_in (version_of fails.unit.unit.header.kind) spec.attribute c ok) ∙ both in cc)

-- ---- a search passes attributes that are not open

its_class : (class : Option Class) (a : ℕ) → is_open_in class a ≡ false
    → (c : Class) × (class ≡ Some c) × (allows a c ≡ true)
its_class (Some c) a is = (c, refl, not-false (allows a c) is)
its_class None a is = absurd (let both : true ≡ false = is in cc)

pub others_pass : (units : List PlacedUnit) (spec : AttributeSpec) → IsNotOpen spec
    → NeverFailsAt (ClassFails units) spec
others_pass units spec is =
    let (c, class, ok) = its_class (form_class spec.form) spec.attribute is in
    class_passes units spec c class ok

-- a value of another class
pub class_least : (units : List PlacedUnit) (head : EntryHead) (a : ℕ) (v : Datum) (p : PlacedUnit)
    → slice_get units head.unit ≡ Some p → allows_in (version_of p.unit.header.kind) a (class_of v) ≡ false
    → IsLeast (ClassFails units head a v) (Some WrongClass)
class_least units head a v p is not_allowed = search (rules)

-- the unit with this number
pub unit_there : (us : List DebugUnit) (number : ℕ) → number < length us
    → slice_get (placed us) number ≡ Some (placed_of (placed us) number)
unit_there us number below =
    slice_get-get_or (placed us) number no_placed (omega (arith, below, length-placed us))

-- each entry is in a unit
pub in_units : («abbrev» info : List ℕ) (us : List DebugUnit) (id : ℕ) (e : Entry) → Spells «abbrev» us info
    → slice_get (entries_of us) id ≡ Some e → e.unit < length us
in_units «abbrev» info us id e spells is = (head_fits «abbrev» info us id e spells is).within
