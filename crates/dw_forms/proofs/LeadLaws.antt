-- What a lead says of the attribute that has it.
use Rattle.std.proofs.Common.{rules, ◌≡◌, ◌≢◌, ℕ, Bool, true, false, refl, ◌==◌, ◌||◌, if◌then◌else◌, eqb-true}
use Rattle.std.specs.Prelude.{⊤}
use Rattle.std.proofs.lemmas.Bool.{eqb-false}
use Rattle.dw_forms.specs.declared.abbrev.AttributeSpec.{AttributeSpec}
use Rattle.dw_forms.specs.declared.form.Form.{Form}
use Rattle.dw_forms.specs.declared.form.Form.TheVariants.{Ref4, Strp, Strx1, Strx2, Addrx}
use Rattle.dw_forms.specs.declared.leading_steps.Lead.TheVariants as lead
use Rattle.dw_forms.specs.Codes.{DW_AT_type, DW_AT_sibling, DW_AT_specification, DW_AT_import, DW_AT_signature}
use Rattle.dw_forms.specs.LeadingWalks.{does_lead, lead_by, lead_of, Lead}

-- an attribute of this form and code has a lead, and this says so much of it
abbrev pub Says : Lead → Form → ℕ → Bool → Type 0
Says lead.Nothing form code leads = ⊥
Says lead.Text form code leads = (form ≡ Strp) × (code ≢ DW_AT_type)
Says lead.TypeEntry form code leads = (form ≡ Ref4) × (code ≡ DW_AT_type)
Says lead.Sibling form code leads = (form ≡ Ref4) × (code ≡ DW_AT_sibling)
Says lead.Specification form code leads = (form ≡ Ref4) × (code ≡ DW_AT_specification)
Says lead.Entry form code leads =
    (form ≡ Ref4) × (code ≢ DW_AT_type) × (code ≢ DW_AT_sibling) × (code ≢ DW_AT_specification) × (code ≢ DW_AT_import)
    × (code ≢ DW_AT_signature)
Says lead.Index1 form code leads = (form ≡ Strx1) × (code ≢ DW_AT_type)
Says lead.Index2 form code leads = (form ≡ Strx2) × (code ≢ DW_AT_type)
Says lead.Address form code leads = (form ≡ Addrx) × (code ≢ DW_AT_type)
Says lead.Passed form code leads = leads ≡ false
Says lead.Other form code leads = ⊤

reference_says : (code : ℕ) (b : Bool) (a1 a2 a3 a4 a5 : Bool) → (code == DW_AT_type) ≡ a1
    → (code == DW_AT_sibling) ≡ a2 → (code == DW_AT_specification) ≡ a3 → (code == DW_AT_import) ≡ a4
    → (code == DW_AT_signature) ≡ a5
    → Says (if a1 then lead.TypeEntry else
    (if a2 then lead.Sibling else (if a3 then lead.Specification else (if a4 || a5 then lead.Other else lead.Entry))))
    Ref4 code b
reference_says code b true a2 a3 a4 a5 e1 e2 e3 e4 e5 = (refl, eqb-true code DW_AT_type e1)
reference_says code b false true a3 a4 a5 e1 e2 e3 e4 e5 = search (rules, eqb-true)
reference_says code b false false true a4 a5 e1 e2 e3 e4 e5 = search (rules, eqb-true)
reference_says code b false false false true a5 e1 e2 e3 e4 e5 = tt
reference_says code b false false false false true e1 e2 e3 e4 e5 = tt
reference_says code b false false false false false e1 e2 e3 e4 e5 = search (rules, eqb-false)

value_says : (l : Lead) (form : Form) (code : ℕ) (b a : Bool) → (code == DW_AT_type) ≡ a
    → ((code ≢ DW_AT_type) → Says l form code b) → Says (if a then lead.Other else l) form code b
value_says l form code b true e says = tt
value_says l form code b false e says = says (eqb-false code DW_AT_type e)

other_says : (form : Form) (code : ℕ) (b : Bool) → Says (if b then lead.Other else lead.Passed) form code b
other_says form code true = tt
other_says form code false = refl

-- by the form
by_form : (form : Form) (spec : AttributeSpec) → Says (lead_by form spec) form spec.attribute (does_lead spec)
by_form Ref4 spec = search (rules, reference_says)
by_form Strp spec = search (rules, value_says)
by_form Strx1 spec = search (rules, value_says)
by_form Strx2 spec = search (rules, value_says)
by_form Addrx spec = search (rules, value_says)
by_form form spec = search (rules, other_says)

-- what the lead of an attribute says of it is so
pub lead_says : (spec : AttributeSpec) (l : Lead) → lead_of spec ≡ l → Says l spec.form spec.attribute (does_lead spec)
lead_says spec l e = rw e at (by_form spec.form spec)
