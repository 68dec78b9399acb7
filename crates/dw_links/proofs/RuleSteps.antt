-- The attributes of an entry that rules are asked of, one after the other.
-- And those at which no rule fails, with the entry that the entry's type reaches.
use Rattle.std.proofs.Common.{get_or, ◌≡◌, ℕ, ◌<◌, List, [], ◌∷◌, ◌++◌, length, None, Some, refl, sym, ap, ◌∙◌, subst, arith, append_assoc, length-append, rules, suc, Bool, true, false, Option, append-nil, inl, inr, All, slice_get, ◌==◌, unwrap_or, option_and_then}
use Rattle.std.proofs.lemmas.List.Elements.{All-append, All-nil, All-push}
use Rattle.std.proofs.lemmas.Option.{get_or_from_slice_get, slice_get-get_or, slice_get_within}
use Rattle.dw_forms.specs.Value.{Datum}
use Rattle.dw_entries.specs.declared.fault.PlainFault.{PlainFault}
use Rattle.dw_entries.specs.declared.fault.Section.TheVariants.{Info}
use Rattle.dw_entries.specs.PassedAttributes.{ArePassed, IsNextOf}
pub use Rattle.dw_entries.specs.Lookups.{entry_head, value_in, Entry, values_of}
use Rattle.dw_entries.proofs.Firsts.{first_of_attributes, none_of_attributes, HasNone, IsFirst, IsLeast, Rule}
use Rattle.dw_entries.proofs.UnitRanges.{get_front}
use Rattle.dw_links.specs.RulesOfAttributes.{Rules, AtHead, NeverFailsAt, EntryHead}
use Rattle.dw_forms.specs.Codes.{DW_AT_type}
use Rattle.dw_entries.specs.declared.entries.Entries.{Entries}
use Rattle.dw_entries.specs.Leading.{DoesNotLead, AttributeSpec}
use Rattle.dw_links.specs.EntryLinks.{kept_after, Reaches, HasFailedAs, IsEntryLinked, IsFirstAtEntry}
use Rattle.dw_links.specs.UnitAtHand.{FailsByText, FailsByTarget, target_by}
use Rattle.dw_links.specs.Targets.{target_of}
use Rattle.dw_links.proofs.ClassLemmas.{leads, passes_texts, passes_targets}

-- ---- lists

-- what is between them
pub between_get : {X : Type 0} (xs ys : List X) (x : X) → slice_get (xs ++ x ∷ ys) (length xs) ≡ Some x
between_get [] ys x = refl
between_get (y ∷ xs) ys x = between_get xs ys x

-- ---- the rules

-- no rule fails at an attribute of an entry, nor at these
abbrev pub Passes : Rules → EntryHead → ℕ × Datum → Type 0
Passes Fails head item = (r : Rule) → Fails head item.0 item.1 r → ⊥

abbrev pub NoneFails : Rules → EntryHead → List (ℕ × Datum) → Type 0
NoneFails Fails head = All (Passes Fails head)

none_at : (Fails : Rules) (head : EntryHead) (items : List (ℕ × Datum)) (k : ℕ) (item : ℕ × Datum)
    → NoneFails Fails head items → slice_get items k ≡ Some item → Passes Fails head item
none_at Fails head items k item none is =
    subst (Passes Fails head) (get_or_from_slice_get items k item item is)
    (none k item (slice_get_within items k item is))

-- ---- the loop

-- no rule fails so far, and these are left
pub record Checked (Fails : Rules) (head : EntryHead) (items left : List (ℕ × Datum)) : Type 0 where
  pub done : List (ℕ × Datum)
  pub parts : items ≡ done ++ left
  pub none : NoneFails Fails head done

pub none_checked : (Fails : Rules) (head : EntryHead) (items left : List (ℕ × Datum)) → left ≡ items
    → Checked Fails head items left
none_checked Fails head items left same = record { done = []; parts = sym same; none = All-nil (Passes Fails head) }

-- fewer are left
pub fewer : (Pass : AttributeSpec → Type 0) (left : List (ℕ × Datum)) (x : ℕ × Datum) (behind : List (ℕ × Datum))
    → IsNextOf Pass left x behind → length behind < length left
fewer Pass left x behind n = omega (arith, ap length n.parts, length-append n.passed (x ∷ behind))

-- of attributes that are passed none fails
module _ (Fails : Rules) (Pass : AttributeSpec → Type 0)
    (over : (spec : AttributeSpec) → Pass spec → NeverFailsAt Fails spec)
  where
    passed_none : (head : EntryHead) (items : List (ℕ × Datum)) → ArePassed Pass items → NoneFails Fails head items
    passed_none head items passed k d below r fails =
        let p = passed k (get_or items k d) (slice_get-get_or items k d below) in
        over p.spec p.passes p.context p.declared p.is_attribute head r
        (subst (λ (y : ℕ × Datum). Fails head y.0 y.1 r) (sym p.is_item) fails)

    -- at the end no rule fails at the entry
    pub checked_all : (e : Entry) (left : List (ℕ × Datum)) → Checked Fails (entry_head e) (values_of e.head) left
        → ArePassed Pass left → HasNone (AtHead Fails e)
    checked_all e left l passed =
        none_of_attributes (λ x. Fails (entry_head x)) e
        (λ j a v below has. none_at Fails (entry_head e) (l.done ++ left) j (a, v)
        (All-append (Passes Fails (entry_head e)) l.done left l.none (passed_none (entry_head e) left passed))
        (ap (λ xs. slice_get xs j) (sym l.parts) ∙ has))

    module _ (e : Entry) (left behind : List (ℕ × Datum)) (a : ℕ) (v : Datum)
        (l : Checked Fails (entry_head e) (values_of e.head) left) (n : IsNextOf Pass left (a, v) behind) where
      joined : values_of e.head ≡ (l.done ++ n.passed) ++ (a, v) ∷ behind
      joined =
          l.parts ∙ ap (λ (xs : List (ℕ × Datum)). l.done ++ xs) n.parts
          ∙ sym (append_assoc l.done n.passed ((a, v) ∷ behind))

      before_none : NoneFails Fails (entry_head e) (l.done ++ n.passed)
      before_none =
          All-append (Passes Fails (entry_head e)) l.done n.passed l.none
          (passed_none (entry_head e) n.passed n.are_passed)

      -- where a rule fails, that is the first failure
      pub checked_fails : (rule : Rule) (broken : PlainFault) → IsLeast (Fails (entry_head e) a v) (Some rule)
          → broken ≡ record { rule = rule; section = Info; at = e.at; attribute = a } → IsFirst (AtHead Fails e) broken
      checked_fails rule broken least is =
          let stands : slice_get (values_of e.head) (length (l.done ++ n.passed))
          ≡ Some (a, v) = ap (λ (xs : List (ℕ × Datum)). slice_get xs (length (l.done ++ n.passed))) joined
          ∙ between_get (l.done ++ n.passed) behind (a, v) in
          first_of_attributes (λ x. Fails (entry_head x)) e (length (l.done ++ n.passed)) a v rule broken stands
          (λ j b w lt has. none_at Fails (entry_head e) (l.done ++ n.passed) j (b, w) before_none
          (sym (get_front (l.done ++ n.passed) ((a, v) ∷ behind) j lt) ∙ ap (λ xs. slice_get xs j) (sym joined) ∙ has))
          least (rw is (record { rule = refl; section = refl; at = refl; attribute = refl }))

      -- one attribute more, where no rule fails
      pub checked_more : IsLeast (Fails (entry_head e) a v) None
          → Checked Fails (entry_head e) (values_of e.head) behind
      checked_more none = record {
        done = (l.done ++ n.passed) ++ (a, v) ∷ [];
        parts = joined ∙ sym (append_assoc (l.done ++ n.passed) ((a, v) ∷ []) behind);
        none = All-push (Passes Fails (entry_head e)) (l.done ++ n.passed) (a, v) before_none none;
      }

-- ---- the first type

-- what is passed has no type
passed_type : (passed rest : List (ℕ × Datum)) → ArePassed DoesNotLead passed
    → value_in (passed ++ rest) DW_AT_type ≡ value_in rest DW_AT_type
passed_type [] rest are = refl
passed_type (x ∷ passed) rest are =
    let p = are 0 x refl in
    let code : p.spec.attribute ≡ x.0 = sym p.is_attribute.code ∙ ap (λ (y : ℕ × Datum). y.0) p.is_item in
    let other : (x.0 == DW_AT_type)
    ≡ false = ap (λ (n : ℕ). n == DW_AT_type) (sym code) ∙ (leads p.spec p.passes).no_type in
    rw other (passed_type passed rest (λ k y is. are (suc k) y is))

-- the first type reaches what is kept, or where nothing is, what the first type of those left reaches
abbrev pub IsKept : (Datum → Option ℕ) → (items left : List (ℕ × Datum)) → Option (Option ℕ) → Type 0
IsKept reach items left kept = option_and_then reach (value_in items DW_AT_type)
    ≡ unwrap_or kept (option_and_then reach (value_in left DW_AT_type))

-- after one attribute more
keeps_more : (reach : Datum → Option ℕ) (items left behind : List (ℕ × Datum)) (kept : Option (Option ℕ)) (a : ℕ)
    (v : Datum) → IsKept reach items left kept → IsNextOf DoesNotLead left (a, v) behind
    → IsKept reach items behind (kept_after kept a (reach v))
keeps_more reach items left behind kept a v k n =
    k
    ∙ ap (λ (o : Option Datum). unwrap_or kept (option_and_then reach o))
    (ap (λ (xs : List (ℕ × Datum)). value_in xs DW_AT_type) n.parts
    ∙ passed_type n.passed ((a, v) ∷ behind) n.are_passed)
    ∙ after kept (a == DW_AT_type) refl
  where
    after : (o : Option (Option ℕ)) (b : Bool) → (a == DW_AT_type) ≡ b
        → unwrap_or o (option_and_then reach (value_in ((a, v) ∷ behind) DW_AT_type))
        ≡ unwrap_or (kept_after o a (reach v)) (option_and_then reach (value_in behind DW_AT_type))
    after (Some target) b is = refl
    after None true is = rw is refl
    after None false is = rw is refl

-- at the end it is that of the entry's type
keeps_all : (reach : Datum → Option ℕ) (items left : List (ℕ × Datum)) (kept : Option (Option ℕ))
    → IsKept reach items left kept → ArePassed DoesNotLead left
    → unwrap_or kept None ≡ option_and_then reach (value_in items DW_AT_type)
keeps_all reach items left kept k passed =
    sym (k ∙ ap (λ (o : Option Datum). unwrap_or kept (option_and_then reach o))
    (ap (λ (xs : List (ℕ × Datum)). value_in xs DW_AT_type) (sym (append-nil left)) ∙ passed_type left [] passed))

-- ---- the loop

-- no rule fails so far, and this is kept of the first type
pub record SoFar (entries : Entries) (e : Entry) (left : List (ℕ × Datum)) (kept : Option (Option ℕ)) : Type 0 where
  pub strings : Checked (FailsByText entries) (entry_head e) (values_of e.head) left
  pub references : Checked (FailsByTarget entries) (entry_head e) (values_of e.head) left
  pub keeps : IsKept (target_by entries (entry_head e)) (values_of e.head) left kept

module _ (entries : Entries) (e : Entry) (left : List (ℕ × Datum)) where
  pub none_so_far : left ≡ values_of e.head → SoFar entries e left None
  none_so_far same = search (rules, none_checked)

  -- at the end
  pub linked_at_end : (kept : Option (Option ℕ)) (target : Option ℕ) → target ≡ unwrap_or kept None
      → SoFar entries e left kept → ArePassed DoesNotLead left → IsEntryLinked entries e target
  unfolding target_of
  linked_at_end kept target is s passed = record {
    strings = checked_all _ _ (passes_texts entries) e left s.strings passed;
    references = checked_all _ _ (passes_targets entries) e left s.references passed;
    is_target = is ∙ keeps_all (target_by entries (entry_head e)) (values_of e.head) left kept s.keeps passed;
  }

  -- one attribute more
  module _ (kept : Option (Option ℕ)) (s : SoFar entries e left kept) (item : ℕ × Datum) (behind : List (ℕ × Datum))
      (next : IsNextOf DoesNotLead left item behind) where
    pub more_so_far : (after : Option (Option ℕ)) (reached : Option ℕ)
        → Reaches entries (entry_head e) item.0 item.1 reached → after ≡ kept_after kept item.0 reached
        → SoFar entries e behind after
    more_so_far after reached r is = record {
      strings = checked_more _ _ (passes_texts entries) e left behind _ _ s.strings next r.strings;
      references = checked_more _ _ (passes_targets entries) e left behind _ _ s.references next r.references;
      keeps =
          rw (is, r.is_target) (keeps_more (target_by entries (entry_head e)) (values_of e.head) left behind kept _ _
          s.keeps next);
    }

    -- where a rule fails, that is the first failure of its group
    pub fails_so_far : (broken : PlainFault) → HasFailedAs entries (entry_head e) item.0 item.1 broken
        → IsFirstAtEntry entries e broken
    fails_so_far broken fails =
        elim fails [
          | inl f ↦ inl (checked_fails _ _ (passes_texts entries) e left behind _ _ s.strings next f.rule broken
              f.least f.named)
          | inr f ↦ inr (checked_fails _ _ (passes_targets entries) e left behind _ _ s.references next f.rule broken
              f.least f.named)
        ]
