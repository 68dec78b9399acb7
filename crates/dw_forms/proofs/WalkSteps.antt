-- Where the first step in the list of a number goes to, and what comes before that attribute.
use Rattle.std.proofs.Common.{rules, ◌≡◌, ℕ, zero, suc, ◌<◌, ◌≤◌, Bool, true, false, not, List, ◌∷◌, length, refl, sym, ◌∙◌, arith, ◌==◌, ◌&&◌, ne_eqb}
use Rattle.std.specs.List.{list_any}
use Rattle.std.proofs.lemmas.Bool.{or_parts}
use Rattle.std.proofs.lemmas.List.Sums.{sum_by-cons}
use Rattle.dw_forms.specs.AttributeLists.{spec_of, numbered_in, varies, IsKnown, AreKnown, EndsWith, Node}
use Rattle.dw_forms.specs.Chains.{Numbered, items_of}
use Rattle.dw_forms.specs.KnownValues.{does_vary, known_size, known_sum, AttributeSpec}
use Rattle.dw_forms.specs.declared.leading_steps.Lead.TheVariants.{Nothing}
use Rattle.dw_forms.specs.LeadingWalks.{does_lead, stops_at, step_in, skip_in, lead_of, lead_in, IsFirstStep, Step}
use Rattle.dw_forms.proofs.ChainLaws.{chain_none}
use Rattle.dw_forms.proofs.LeadLaws.{lead_says}
use Rattle.dw_forms.proofs.PartLaws.{first_is, known_at, none_both}

-- ---- one attribute

-- a value that is passed before a step does not vary
never_varies : (next : ℕ) (b : Bool) → (next ≡ 0 → ⊥) → (b && not (next == 0)) ≡ false → b ≡ false
never_varies next true some e = search (rules, ne_eqb)
never_varies next false some e = refl

-- ---- the list of a number

-- the lead is that of the attribute that the list of the found number begins with
abbrev pub LeadsTo : List Node → ℕ → ℕ → Type 0
LeadsTo nodes number found =
    (spec : AttributeSpec) (list : List (Numbered AttributeSpec))
    → numbered_in nodes found ≡ record { number = found; item = spec } ∷ list
    → lead_in (numbered_in nodes number) ≡ lead_of spec

-- the values before an attribute have one size each and lead nowhere, and so many bytes are those that are passed
pub record GoesTo (nodes : List Node) (number found : ℕ) : Type 0 where
  pub before : List (Numbered AttributeSpec)
  pub goes : EndsWith nodes number found before
  pub none_leads : list_any does_lead (items_of before) ≡ false
  pub none_varies : list_any varies (items_of before) ≡ false
  pub skips : (size : ℕ) → skip_in size (numbered_in nodes number) ≡ known_sum size (items_of before)
  pub leads : LeadsTo nodes number found

-- no step is made where no value leads elsewhere, or one is made to an attribute
pub record Walks (nodes : List Node) (number found : ℕ) : Type 0 where
  pub within : found ≤ number
  pub none : found ≡ 0 → list_any does_lead (items_of (numbered_in nodes number)) ≡ false
  pub no_lead : found ≡ 0 → lead_in (numbered_in nodes number) ≡ Nothing
  pub goes : (found ≡ 0 → ⊥) → GoesTo nodes number found

module _ (nodes : List Node) (known : AreKnown nodes) where
  walks_here : (number : ℕ) (n : Node) (b : Bool) → 0 < number → IsKnown nodes number n
      → stops_at (step_in (numbered_in nodes n.next)) (spec_of n) ≡ b
      → Walks nodes n.next (step_in (numbered_in nodes n.next))
      → Walks nodes number (step_in (numbered_in nodes number))
  unfolding step_in skip_in lead_in
  walks_here number n true some is stops rest = search (rules, first_is)
  walks_here number n false some is stops rest =
      let first : Numbered AttributeSpec = record { number = number; item = spec_of n } in
      let found : step_in (numbered_in nodes number) ≡ step_in (numbered_in nodes n.next) =
      rw (is.begins, stops) refl in
      let parts = or_parts (does_lead (spec_of n)) (does_vary n.form && not (step_in (numbered_in nodes n.next) == 0))
      stops in
      let less = is.next in
      let w = rest.within in
      rw found (record {
        within = omega arith;
        none = λ e. (λ i. list_any does_lead (items_of (is.begins i)))
            ∙ none_both (does_lead (spec_of n)) (list_any does_lead (items_of (numbered_in nodes n.next))) parts.0
            (rest.none e);
        no_lead = λ e. rw (is.begins, stops) (rest.no_lead e);
        goes = λ other.
            let g = rest.goes other in
            record {
              before = first ∷ g.before;
              goes = is.begins ∙ (λ i. first ∷ g.goes i);
              none_leads =
                  none_both (does_lead (spec_of n)) (list_any does_lead (items_of g.before)) parts.0 g.none_leads;
              none_varies =
                  none_both (does_vary n.form) (list_any varies (items_of g.before))
                  (never_varies (step_in (numbered_in nodes n.next)) (does_vary n.form) other parts.1) g.none_varies;
              skips = λ size.
                  let more = sum_by-cons (λ (s : AttributeSpec). known_size size s.form) (spec_of n) (items_of g.before)
                  in rw (is.begins, stops) (omega (arith, g.skips size, more));
              leads = λ spec list begins. rw (is.begins, stops) (g.leads spec list begins);
            };
      })

  walks_to : (bound number : ℕ) → number ≤ bound → number ≤ length nodes
      → Walks nodes number (step_in (numbered_in nodes number))
  unfolding step_in lead_in
  walks_to bound zero le within = search (rules, chain_none)
  walks_to zero (suc k) le within = absurd (omega arith)
  walks_to (suc bound) (suc k) le within =
      let (n, is) = known_at nodes known _ (omega arith) within in
      let less = is.next in
      walks_here _ n _ (omega arith) is refl
      (walks_to bound n.next (omega arith) (omega arith))

  module _ (number : ℕ) (within : number ≤ length nodes) (step : Step)
      (is : IsFirstStep (numbered_in nodes number) step)
    where
      walks : Walks nodes number step.to
      walks = search (rules, walks_to)

      pub step_within : step.to ≤ length nodes
      step_within = omega (arith, walks.within)

      -- where no step is made, no value leads elsewhere
      pub step_none : step.to ≡ 0 → list_any does_lead (items_of (numbered_in nodes number)) ≡ false
      step_none none = walks.none none

      -- the attribute to which it goes has its lead
      pub record HasLead : Type 0 where
        pub spec : AttributeSpec
        pub list : List (Numbered AttributeSpec)
        pub begins : numbered_in nodes step.to ≡ record { number = step.to; item = spec } ∷ list
        pub leads : lead_of spec ≡ step.lead

      has_lead : (step.to ≡ 0 → ⊥) → HasLead
      has_lead some =
          let (node, at) = known_at nodes known step.to (omega arith) step_within in
          record {
            spec = spec_of node;
            list = numbered_in nodes node.next;
            begins = at.begins;
            leads = sym ((walks.goes some).leads (spec_of node) (numbered_in nodes node.next) at.begins) ∙ sym is.lead;
          }

      -- where it leads to nothing, no step is made
      pub step_nothing : step.lead ≡ Nothing → step.to ≡ 0
      step_nothing nothing = search (rules, has_lead, lead_says)

      -- and where it leads to something, one is
      pub step_lead : (step.lead ≡ Nothing → ⊥) → HasLead
      step_lead something = search (rules, has_lead, walks)

      pub goes_to : (step.to ≡ 0 → ⊥) → GoesTo nodes number step.to
      goes_to other = walks.goes other
