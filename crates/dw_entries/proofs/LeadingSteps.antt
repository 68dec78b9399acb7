-- One step of a walk over the values that may lead elsewhere.
use Rattle.std.proofs.Common.{rules, ◌≡◌, ℕ, ◌-◌, ◌≤◌, List, [], ◌∷◌, ◌++◌, length, take, drop, map, Ok, subst}
use Rattle.std.proofs.lemmas.Bool.{ltb-false}
use Rattle.std.proofs.lemmas.List.{take-append-drop}
use Rattle.dw_forms.specs.declared.leading_steps.Lead.TheVariants as lead
use Rattle.dw_forms.specs.declared.leading_steps.Step.{Step}
use Rattle.dw_forms.specs.Chains.{Numbered, items_of}
use Rattle.dw_forms.specs.KnownValues.{known_sum, rest_beyond}
use Rattle.dw_forms.specs.Suffixes.{nodes_of, numbered, specs_in}
use Rattle.dw_forms.specs.LeadingWalks.{does_lead, skip_in, IsFirstStep}
use Rattle.dw_forms.proofs.ChainLaws.{chain_none}
use Rattle.dw_forms.proofs.PassSteps.{run, items_append}
use Rattle.dw_forms.proofs.WalkSteps.{GoesTo, goes_to, step_lead}
use Rattle.dw_entries.specs.EntryRules.{value_of}
use Rattle.dw_entries.specs.Leading.{BeginsWithLead, PassesOver}
use Rattle.dw_entries.specs.declared.values.Values.{Values}
use Rattle.dw_entries.specs.ValueLaws.{left_unique}
use Rattle.dw_entries.specs.Values.{value_context, Left, AttributeSpec, Context, AreAttributes}
use Rattle.dw_entries.proofs.ChosenSteps.{front_passed, Attributes}
use Rattle.dw_entries.proofs.PassLaws.{Passed, those}
use Rattle.dw_entries.proofs.ScanLaws.{rest_of}

-- what was cut off
cut_is : (len : ℕ) (bytes rest : List ℕ) → rest_beyond len bytes ≡ Ok rest
    → (len ≤ length bytes) × (rest ≡ drop len bytes)
cut_is len bytes rest e = search (rules, ltb-false)

-- the attributes before the one that a step goes to
module _ (v : Values) (step : Step) (skip : ℕ) (is : IsFirstStep (numbered v.attributes) step)
    (some : step.lead ≡ lead.Nothing → ⊥)
    (skipped : skip ≡ skip_in v.address_size (numbered v.attributes)) (there : Attributes)
    (nodes_are : nodes_of there ≡ nodes_of v.attributes) (first_is : there.first ≡ step.to) where
  -- what the values are read by
  abbrev x : Context
  x = value_context v.version v.address_size

  abbrev all : Attributes
  all = v.attributes

  -- the first of those that are left
  pub begins : BeginsWithLead step.lead (specs_in there)
  begins =
      let h = step_lead (nodes_of all) all.lists.now.known all.first all.within step is some in
      record {
        spec = h.spec;
        others = items_of h.list;
        begins = search rules;
        has_lead = h.leads;
      }

  goes : GoesTo (nodes_of all) all.first step.to
  goes = goes_to (nodes_of all) all.lists.now.known all.first all.within step is (λ none.
      let h = step_lead (nodes_of all) all.lists.now.known all.first all.within step is some in
      let empty : ◌≡◌ {A = List (Numbered AttributeSpec)} (record { number = step.to; item = h.spec } ∷ h.list) [] =
      search (rules, begins, chain_none) in
      cc)

  abbrev front : List AttributeSpec
  front = items_of goes.before

  parts : specs_in all ≡ front ++ specs_in there
  parts = search (rules, goes, items_append)

  here : Passed x front (specs_in there) v.left.0.0 v.left.0.1 v.bytes.now
  here = search (rules, those, parts)

  skips : skip ≡ known_sum v.address_size front
  skips = search (rules, goes)

  cut : (skip ≤ length v.bytes.now) × (here.behind ≡ drop skip v.bytes.now)
  cut = search (rules, cut_is, here, skips, run, goes)

  pub skip_within : skip ≤ length v.bytes.now
  skip_within = cut.0

  abbrev slice : List ℕ
  slice = take (length v.bytes.now - skip) (drop skip v.bytes.now)

  pub left_there : Left x (specs_in there) slice
  left_there = (
    (here.others, v.left.0.1),
    record {
      are = here.are;
      spelled = search (rules, rest_of, cut, here);
    },
  )

  pub over : (m : Left x (specs_in there) slice)
      → PassesOver (map value_of v.left.0.0) (map value_of m.0.0) (specs_in all) (specs_in there)
  unfolding left_there
  over m =
      let values = map value_of v.left.0.0 in
      let k = length front in
      let same = left_unique x (specs_in there) slice m left_there in
      record {
        passed = take k values;
        parts = search (rules, take-append-drop, here);
        are_passed =
            front_passed does_lead x front (specs_in there) v.left.0.0
            (subst (λ (ss : List AttributeSpec). AreAttributes x ss v.left.0.0) parts v.left.1.are) goes.none_leads;
        passed_specs = front;
        spec_parts = parts;
        none_leads = goes.none_leads;
      }
