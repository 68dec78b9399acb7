-- The rules on strings, addresses and references: their groups, and which of those that fail has the least number.
use Rattle.std.proofs.Common.{rules, ◌≡◌, ℕ, List, Option, ap, ◌∙◌, arith, inl, inr, false, Some, None, refl, true, sym, subst, is_some}
use Rattle.dw_forms.specs.Value.{Datum, str, ref_sig}
use Rattle.dw_entries.specs.declared.fault.PlainFault.{PlainFault}
pub use Rattle.dw_entries.specs.declared.entries.Entries.{Entries}
use Rattle.dw_entries.specs.declared.header.UnitHeader.{UnitHeader}
use Rattle.dw_entries.specs.declared.entry.EntryHead.{EntryHead}
use Rattle.dw_forms.specs.Rules.{group_of}
use Rattle.dw_links.specs.EntryLinks.{IsFirstOfGroup}
use Rattle.dw_links.specs.Strings.{StringFailsIn, StringFailures, Sections}
use Rattle.dw_links.specs.References.{ReferenceFailures, HeaderFailures, permits, permits_form, is_signature, is_reference_value, NoEntryThere, IsWrongKind, IsOtherThan, NoSignatureThere, ReferenceFails}
use Rattle.std.proofs.lemmas.Option.{get_or_from_slice_get, none-some}
use Rattle.dw_forms.specs.declared.rule.Rule.TheVariants as rule
pub use Rattle.dw_entries.specs.Views.{all_entries, all_units, units_of, Entry, PlacedUnit, DebugUnit}
use Rattle.dw_entries.proofs.Firsts.{same_some, Failure, IsFirst, HasNone, IsLeast, Rule}
use Rattle.dw_links.proofs.LinkedEntries.{by_signature, entries_rise, reach_of}
use Rattle.dw_links.proofs.TargetLemmas.{at_type, no_entry, entry_of}

string_group : (s : Sections) (h : UnitHeader) (b c : Option ℕ) (head : EntryHead) (a : ℕ) (v : Datum) (rule : Rule)
    → StringFailsIn s h b c head a v rule → group_of rule ≡ 3
string_group s h b c head a (str offset) rule fails = search rules
string_group s h b c head a _ rule fails = search rules

pub string_failures : (s : Sections) (us : List DebugUnit) (f : Failure) → StringFailures s us f → group_of f.rule ≡ 3
string_failures s us f fails = search (rules, string_group)

pub reference_failures : (us : List DebugUnit) (f : Failure) → ReferenceFailures us f → group_of f.rule ≡ 4
reference_failures us f fails = search rules

-- ---- the first of its group, by its rule

pub string_first : (s : Sections) (us : List DebugUnit) (broken : PlainFault) → IsFirstOfGroup s us broken
    → group_of broken.rule ≡ 3 → IsFirst (StringFailures s us) broken
string_first s us broken (inl first) is = first
string_first s us broken (inr first) is =
    absurd (omega (arith, is, ap group_of first.named.rule, reference_failures us first.failure first.fails))

pub reference_first : (s : Sections) (us : List DebugUnit) (broken : PlainFault) → IsFirstOfGroup s us broken
    → (group_of broken.rule ≡ 3 → ⊥) → IsFirst (ReferenceFailures us) broken
reference_first s us broken (inl first) is =
    absurd (is (ap group_of first.named.rule ∙ string_failures s us first.failure first.fails))
reference_first s us broken (inr first) is = first

-- where a premise holds, the least rule is that of what comes under it
pub least_under : (P Q : Type 0) (F : Rule → Type 0) (o : Option Rule) → P → Q → IsLeast F o
    → IsLeast (λ r. P × Q × F r) o
least_under P Q F None p q least = λ rule fails. least rule fails.2
least_under P Q F (Some r) p q least = ((p, q, least.0), λ rule fails less. least.1 rule fails.2 less)

pub none_of : (o : Option ℕ) → is_some o ≡ false → o ≡ None
none_of None is = refl
none_of (Some n) is = absurd cc

-- a signature that reaches no entry is no unit's
pub no_signature : (entries : Entries) (unit : ℕ) (v : Datum)
    → HasNone (HeaderFailures (all_entries entries) (all_units entries)) → is_signature v ≡ true
    → reach_of (all_entries entries) (all_units entries) unit v ≡ None → NoSignatureThere (all_units entries) v
no_signature entries unit (ref_sig s) none is nowhere = λ number has.
    let us = units_of entries in
    let (id, reaches) = by_signature us none unit s _ refl (entries_rise _ us entries.scanned.1.spells.are)
    (λ unsigned. unsigned number has) in
    none-some id (sym nowhere ∙ reaches)
no_signature entries unit _ none is nowhere = absurd cc

-- a reference that reaches an entry has its signature
not_unsigned : (entries : List Entry) (units : List PlacedUnit) (unit : ℕ) (v : Datum) (id : ℕ)
    → reach_of entries units unit v ≡ Some id → NoSignatureThere units v → ⊥
not_unsigned entries units unit (ref_sig s) id reaches none =
    let found = at_type entries units s id reaches in none found.number found.has
not_unsigned entries units unit _ id reaches none = none

-- a sibling attribute reaches the next sibling
pub right_sibling : (next reached : Option ℕ) (id : ℕ) → reached ≡ Some id → next ≡ Some id → IsOtherThan next reached
    → ⊥
right_sibling next reached id reaches is other = search (rules, same_some)

module _ (entries : List Entry) (units : List PlacedUnit) (head : EntryHead) (a : ℕ) (v : Datum) (id : ℕ)
    (reaches : reach_of entries units head.unit v ≡ Some id) where
  abbrev Fails : Rule → Type 0
  Fails = ReferenceFails entries units head a v

  no_entry_not : NoEntryThere v (reach_of entries units head.unit v) → ⊥
  no_entry_not none = none-some id (sym none.1 ∙ reaches)

  -- four rules are asked of references
  by_rule : (P : Rule → Type 0) → (Fails rule.NoEntry → P rule.NoEntry) → (Fails rule.WrongKind → P rule.WrongKind)
      → (Fails rule.NotNextSibling → P rule.NotNextSibling) → (Fails rule.NoSignature → P rule.NoSignature) → (r : Rule)
      → Fails r → P r
  by_rule P p q s t rule.NoEntry fails = p fails
  by_rule P p q s t rule.WrongKind fails = q fails
  by_rule P p q s t rule.NotNextSibling fails = s fails
  by_rule P p q s t rule.NoSignature fails = t fails
  by_rule P p q s t _ fails = absurd fails.1

  module _ (form : true ≡ permits_form head a v) (kind : true ≡ permits head a (entry_of entries id)) where
    -- the kinds of its form and of its target are permitted
    not_wrong : IsWrongKind entries head a v (Some id) → ⊥
    not_wrong wrong =
        elim wrong [
          | inl other ↦ let both : true ≡ false = form ∙ other in cc
          | inr other ↦
              let some : Some id ≡ Some other.id = other.reaches in
              let same : id ≡ other.id = cc in
              let target : entry_of entries id ≡ other.target = ap (entry_of entries) same
              ∙ get_or_from_slice_get entries other.id other.target no_entry other.is_target in
              let both : true ≡ false = kind ∙ ap (permits head a) target ∙ other.wrong in cc
        ]

    pub least_none : ((a ≡ 1) × IsOtherThan head.next_sibling (reach_of entries units head.unit v) → ⊥) → (r : Rule)
        → Fails r → ⊥
    least_none next =
        by_rule (λ r. ⊥) (λ f. no_entry_not f.1)
        (λ f. not_wrong (subst (IsWrongKind entries head a v) reaches f.1)) (λ f. next f.1)
        (λ f. not_unsigned entries units head.unit v id reaches f.1)

  pub wrong_first : is_reference_value v ≡ true → IsWrongKind entries head a v (Some id)
      → IsLeast Fails (Some rule.WrongKind)
  wrong_first reference wrong = search (rules, by_rule, no_entry_not)
