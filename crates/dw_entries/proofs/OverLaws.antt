-- Attributes that are passed, and the one after them.
use Rattle.std.proofs.Common.{rules, ◌≡◌, ℕ, zero, suc, ◌<◌, ◌≤◌, ◌-◌, take, drop, Ok, true, false, List, [], ◌∷◌, ◌++◌, length, map, Option, Some, None, refl, sym, ap, ◌∙◌, append_assoc, length-append, IfNone, IfSome}
use Rattle.std.proofs.lemmas.Bool.{or_parts}
use Rattle.std.specs.List.{list_any}
use Rattle.dw_forms.specs.declared.leading_steps.Lead.TheVariants as lead
use Rattle.dw_forms.specs.declared.leading_steps.Step.{Step}
use Rattle.dw_forms.specs.LeadingWalks.{does_lead, lead_of, IsFirstStep}
use Rattle.dw_forms.specs.Suffixes.{Ends, nodes_of, numbered, specs_in}
use Rattle.dw_forms.specs.ValueReading.{value_at}
pub use Rattle.dw_entries.specs.ValuesLeft.{specs_left, values_left, Values}
use Rattle.dw_entries.proofs.ValueSteps.{item_passed, steps_after, value_of, Left, value_context, Datum, AttributeSpec, Context}
use Rattle.dw_forms.proofs.LeadLaws.{lead_says}
use Rattle.dw_forms.proofs.PartLaws.{none_both}
use Rattle.dw_forms.proofs.WalkSteps.{step_none, step_nothing}
use Rattle.dw_entries.specs.Led.{item_of, leads_on, LeadsNext, Lead, Form}
use Rattle.dw_entries.specs.declared.led.Led.{Led}
use Rattle.dw_entries.specs.Leading.{BeginsWithForm, BeginsWithLead, DoesNotLead, PassesOver, ReadsFirst, StepsTo, form_of_lead}
use Rattle.dw_entries.specs.PassedAttributes.{ArePassed, IsNextOf, IsPassed}
use Rattle.dw_entries.proofs.ChosenSteps.{all_passed, Attributes, first_specs}
use Rattle.dw_entries.proofs.LeadValues.{lead_form}

both_passed : (xs ys : List (ℕ × Datum)) → ArePassed DoesNotLead xs → ArePassed DoesNotLead ys
    → ArePassed DoesNotLead (xs ++ ys)
both_passed [] ys front back k item is = back k item is
both_passed (x ∷ xs) ys front back zero item is = front zero item is
both_passed (x ∷ xs) ys front back (suc k) item is =
    both_passed xs ys (λ j i e. front (suc j) i e) back k item is

one_passed : (item : ℕ × Datum) → IsPassed DoesNotLead item → ArePassed DoesNotLead (item ∷ [])
one_passed item is zero other e = search (rules)
one_passed item is (suc k) other e = absurd cc

none_of_both : (xs ys : List AttributeSpec) → list_any does_lead xs ≡ false → list_any does_lead ys ≡ false
    → list_any does_lead (xs ++ ys) ≡ false
none_of_both [] ys front back = back
none_of_both (x ∷ xs) ys front back =
    let parts = or_parts (does_lead x) (list_any does_lead xs) front in
    none_both (does_lead x) (list_any does_lead (xs ++ ys)) parts.0 (none_of_both xs ys parts.1 back)

-- where a lead goes on, there is one
pub on_some : (l : Lead) → leads_on l ≡ true → l ≡ lead.Nothing → ⊥
on_some l on nothing = search (rules)

-- the given form is that of the first attribute
pub form_fits : (given : Option Form) (l : Lead) (specs : List AttributeSpec) → given ≡ form_of_lead l
    → BeginsWithLead l specs → IfSome given (BeginsWithForm specs)
form_fits None l specs is b = tt
form_fits (Some f) l specs is b = λ spec others e.
    let both : ◌≡◌ {A = List AttributeSpec} (b.spec ∷ b.others) (spec ∷ others) = sym b.begins ∙ e in
    let same : b.spec ≡ spec = cc in
    lead_form l f spec (sym is) (ap lead_of (sym same) ∙ b.has_lead)

-- there is a first attribute
pub some_first : (l : Lead) (specs : List AttributeSpec) → BeginsWithLead l specs → specs ≡ [] → ⊥
some_first l specs b none = search (rules)

-- ---- one attribute more

module _ {items left : List (ℕ × Datum)} {specs others : List AttributeSpec} (p : PassesOver items left specs others)
  where
    pub next_over : (item : ℕ × Datum) (behind : List (ℕ × Datum)) → left ≡ item ∷ behind
        → IsNextOf DoesNotLead items item behind
    next_over item behind is = search (rules)

    pub steps_over : (l : Lead) (item : ℕ × Datum) (behind : List AttributeSpec) → BeginsWithLead l others
        → ReadsFirst others behind item → StepsTo l specs behind item
    steps_over l item behind b r = search (rules)

    -- which leads nowhere
    pub over_more : (item : ℕ × Datum) (behind : List (ℕ × Datum)) (spec : AttributeSpec) (after : List AttributeSpec)
        → left ≡ item ∷ behind → others ≡ spec ∷ after → IsPassed DoesNotLead item → DoesNotLead spec
        → PassesOver items behind specs after
    over_more item behind spec after is are passed quiet = record {
      passed = p.passed ++ item ∷ [];
      parts = search (rules, append_assoc);
      are_passed = search (rules, both_passed, one_passed);
      passed_specs = p.passed_specs ++ spec ∷ [];
      spec_parts = search (rules, append_assoc);
      none_leads = search (rules, none_of_both);
    }

    pub fewer_over : (item : ℕ × Datum) (behind : List (ℕ × Datum)) → left ≡ item ∷ behind
        → length behind < length items
    fewer_over item behind is = search (rules, length-append)

    -- ---- more of them

    pub over_over : (behind : List (ℕ × Datum)) (after : List AttributeSpec) → PassesOver left behind others after
        → PassesOver items behind specs after
    over_over behind after q = record {
      passed = p.passed ++ q.passed;
      parts = search (rules, append_assoc);
      are_passed = search (rules, both_passed);
      passed_specs = p.passed_specs ++ q.passed_specs;
      spec_parts = search (rules, append_assoc);
      none_leads = search (rules, none_of_both);
    }

    found_over : (item : ℕ × Datum) (behind : List (ℕ × Datum)) → IsNextOf DoesNotLead left item behind
        → IsNextOf DoesNotLead items item behind
    found_over item behind n = record {
      passed = p.passed ++ n.passed;
      parts = search (rules, append_assoc);
      are_passed = search (rules, both_passed);
    }

    leads_over : (it : Led) (behind : List AttributeSpec) → LeadsNext it others behind → LeadsNext it specs behind
    leads_over it behind n = record {
      passed = p.passed_specs ++ n.passed;
      spec = n.spec;
      parts = search (rules, append_assoc);
      none_leads = search (rules, none_of_both);
      is_led = n.is_led;
    }

    all_over : ArePassed DoesNotLead left → ArePassed DoesNotLead items
    all_over back k item is = search (rules, both_passed)

    pub found_all : (r : Option Led) (behind : List (ℕ × Datum))
        → IfSome r (λ it. IsNextOf DoesNotLead left (item_of it) behind)
        → IfSome r (λ it. IsNextOf DoesNotLead items (item_of it) behind)
    found_all None behind n = tt
    found_all (Some it) behind n = found_over (item_of it) behind n

    pub leads_all : (r : Option Led) (behind : List AttributeSpec) → IfSome r (λ it. LeadsNext it others behind)
        → IfSome r (λ it. LeadsNext it specs behind)
    leads_all None behind n = tt
    leads_all (Some it) behind n = leads_over it behind n

    pub none_all : (r : Option Led) → IfNone r (ArePassed DoesNotLead left) → IfNone r (ArePassed DoesNotLead items)
    none_all None n = all_over n
    none_all (Some it) n = tt

pub none_over : (items : List (ℕ × Datum)) (specs : List AttributeSpec) → PassesOver items items specs specs
none_over items specs = record {
  passed = [];
  parts = refl;
  are_passed = λ k item is. absurd cc;
  passed_specs = [];
  spec_parts = refl;
  none_leads = refl;
}

-- where no step is made, no value that is left leads elsewhere
pub nothing_left : (a : Attributes) (step : Step) → IsFirstStep (numbered a) step → (x : Context) (bytes : List ℕ)
    (l : Left x (specs_in a) bytes) → step.lead ≡ lead.Nothing → ArePassed DoesNotLead (map value_of l.0.0)
nothing_left a step is x bytes l none =
    all_passed does_lead x (specs_in a) l.0.0 l.1.are
    (step_none (nodes_of a) a.lists.now.known a.first a.within step is
    (step_nothing (nodes_of a) a.lists.now.known a.first a.within step is none))

-- the first attribute leads nowhere, where its lead says so
first_quiet : (l : Lead) (specs others : List AttributeSpec) (spec : AttributeSpec) → BeginsWithLead l specs
    → specs ≡ spec ∷ others → l ≡ lead.Passed → DoesNotLead spec
first_quiet l specs others spec b parts is = search (rules, lead_says)

pub passed_on : (l : Lead) → l ≡ lead.Passed → l ≡ lead.Nothing → ⊥
passed_on l passed nothing = search (rules)

-- the first attribute is skipped, after those that are passed
module _ (v : Values) {items : List (ℕ × Datum)} {specs : List AttributeSpec}
    (p : PassesOver items (values_left v) specs (specs_left v)) (spec : AttributeSpec) (rest : Attributes)
    (first : Ends v.attributes rest (record { number = v.attributes.first; item = spec } ∷ [])) (d : Datum) (len : ℕ)
    (within : len ≤ length v.bytes.now)
    (read : value_at v.version spec.form v.address_size v.bytes.now ≡ Ok (d, drop len v.bytes.now)) where
  abbrev LeftAfter : Type 0
  LeftAfter =
      Left (value_context v.version v.address_size) (specs_in rest)
      (take (length v.bytes.now - len) (drop len v.bytes.now))

  steps_on : (m : LeftAfter) → values_left v ≡ (spec.attribute, d) ∷ map value_of m.0.0
  steps_on = steps_after v None spec rest spec.form first tt refl d len within read

  pub past : (l : Lead) → BeginsWithLead l (specs_left v) → l ≡ lead.Passed → (m : LeftAfter)
      → PassesOver items (map value_of m.0.0) specs (specs_in rest)
  past l b is m =
      let parts = first_specs v.attributes rest spec first in
      let quiet = first_quiet l (specs_left v) (specs_in rest) spec b parts is in
      over_more p (spec.attribute, d) (map value_of m.0.0) spec (specs_in rest) (steps_on m) parts
      (item_passed v spec rest first quiet d len within read) quiet

  pub past_fewer : (m : LeftAfter) → length (map value_of m.0.0) < length items
  past_fewer m = fewer_over p (spec.attribute, d) (map value_of m.0.0) (steps_on m)
