-- State: the attributes of an entry that are left of a walk over those whose values may lead elsewhere.
use Rattle.std.specs.Prelude.{◌≡◌, ℕ, false, List, ◌∷◌, ◌++◌, Option, Some, None}
use Rattle.std.specs.List.{list_any}
pub use Rattle.dw_forms.specs.declared.abbrev.AttributeSpec.{AttributeSpec}
use Rattle.dw_forms.specs.declared.form.Form.TheVariants.{Ref4, Strp, Strx1, Strx2, Addrx}
use Rattle.dw_forms.specs.declared.leading_steps.Lead.TheVariants as lead
use Rattle.dw_forms.specs.Suffixes.{specs_in}
use Rattle.dw_forms.specs.Value.{Datum}
use Rattle.dw_forms.specs.LeadingWalks.{does_lead, lead_of}
use Rattle.dw_entries.specs.declared.leads.Leading.{Leading}
use Rattle.dw_entries.specs.Led.{IsRead, Lead, Form}
use Rattle.dw_entries.specs.PassedAttributes.{ArePassed}
use Rattle.dw_entries.specs.ValuesLeft.{values_left}

-- values of attributes that are declared so do not lead elsewhere
abbrev pub DoesNotLead : AttributeSpec → Type 0
DoesNotLead spec = does_lead spec ≡ false

-- the attributes that are left, each with its value
abbrev pub leading_left : Leading → List (ℕ × Datum)
leading_left it = values_left it.values

-- how these are declared
abbrev pub leading_specs : Leading → List AttributeSpec
leading_specs it = specs_in it.values.attributes

-- the lead of the attribute that the next step goes to
abbrev pub next_lead : Leading → Lead
next_lead it = it.step.now.lead

-- ---- one step of the walk

-- some attributes whose values do not lead elsewhere are passed, and these are after them
pub record PassesOver (items left : List (ℕ × Datum)) (specs others : List AttributeSpec) : Type 0 where
  pub passed : List (ℕ × Datum)
  pub parts : items ≡ passed ++ left
  pub are_passed : ArePassed DoesNotLead passed
  pub passed_specs : List AttributeSpec
  pub spec_parts : specs ≡ passed_specs ++ others
  pub none_leads : list_any does_lead passed_specs ≡ false

-- the first attribute has this lead
pub record BeginsWithLead (l : Lead) (specs : List AttributeSpec) : Type 0 where
  pub spec : AttributeSpec
  pub others : List AttributeSpec
  pub begins : specs ≡ spec ∷ others
  pub has_lead : lead_of spec ≡ l

-- the form of each attribute that has this lead, if they all have one
abbrev pub form_of_lead : Lead → Option Form
form_of_lead lead.TypeEntry = Some Ref4
form_of_lead lead.Sibling = Some Ref4
form_of_lead lead.Specification = Some Ref4
form_of_lead lead.Entry = Some Ref4
form_of_lead lead.Text = Some Strp
form_of_lead lead.Index1 = Some Strx1
form_of_lead lead.Index2 = Some Strx2
form_of_lead lead.Address = Some Addrx
form_of_lead _ = None

-- the first attribute has this form, if there is one
abbrev pub BeginsWithForm : List AttributeSpec → Form → Type 0
BeginsWithForm specs form =
    (spec : AttributeSpec) (others : List AttributeSpec) → specs ≡ spec ∷ others → spec.form ≡ form

-- the first attribute was read, and these are after it
pub record ReadsFirst (specs behind : List AttributeSpec) (item : ℕ × Datum) : Type 0 where
  pub spec : AttributeSpec
  pub parts : specs ≡ spec ∷ behind
  pub is_read : IsRead spec item

-- the attribute that a step goes to was read, and these are after it
pub record StepsTo (l : Lead) (specs behind : List AttributeSpec) (item : ℕ × Datum) : Type 0 where
  pub passed : List AttributeSpec
  pub spec : AttributeSpec
  pub parts : specs ≡ passed ++ spec ∷ behind
  pub none_leads : list_any does_lead passed ≡ false
  pub has_lead : lead_of spec ≡ l
  pub is_read : IsRead spec item
