-- The values that leads lead to: their forms, and what is read of their bytes.
use Rattle.std.proofs.Common.{rules, ◌≡◌, ℕ, Bool, true, false, List, length, Some, Ok, Err, refl, subst, Result, sym, nat_lt}
use Rattle.std.specs.Prelude.{⊤}
use Rattle.std.specs.Bool.{OnTrue}
use Rattle.dw_forms.specs.declared.leading_steps.Lead.TheVariants as lead
use Rattle.dw_forms.specs.declared.form.Form.TheVariants.{Ref4, Strp, Strx1, Strx2, Addrx}
use Rattle.dw_forms.specs.declared.value.ValueFault.TheVariants.{Cut}
use Rattle.dw_forms.specs.declared.value.Value.{Value}
use Rattle.dw_forms.specs.declared.value.Value.TheVariants as value
use Rattle.dw_forms.specs.BaseFormats.{taken_at}
use Rattle.dw_forms.specs.Value.{Datum, view, str_index, addr_index, fixed, leb}
use Rattle.dw_forms.specs.ValueFormats.{laid_out}
use Rattle.dw_forms.specs.ValueReading.{layout_at, uleb_then}
use Rattle.dw_forms.specs.LeadingWalks.{lead_of}
use Rattle.dw_forms.proofs.LeadLaws.{lead_says}
use Rattle.dw_entries.specs.Led.{IsMade, IsRead, is_index_lead, is_offset_lead, leads_on, Lead, Form}
use Rattle.dw_entries.specs.Leading.{form_of_lead, AttributeSpec}
use Rattle.dw_forms.specs.WithBytes.{ok_pair}
use Rattle.dw_entries.specs.Values.{IsCutValue}
use Rattle.dw_forms.specs.declared.value.ValueFault.{ValueFault}
use Rattle.dw_forms.specs.Steps.{◌>>=◌}

form_is : {f g : Form} → Some f ≡ Some g → f ≡ g
form_is e = cc

-- ---- the value, by the form

-- bytes that end inside a value of one size
fixed_cut : (n : ℕ) (of : ℕ → Datum) (bytes : List ℕ) → nat_lt (length bytes) n ≡ true
    → layout_at (fixed n of) bytes ≡ Err Cut
unfolding laid_out taken_at
fixed_cut n of bytes short = rw short refl

pub text_cut : (bytes : List ℕ) (b : Bool) → b ≡ nat_lt (length bytes) 4 → OnTrue b (IsCutValue Strp bytes)
text_cut bytes true short = search (rules, fixed_cut)
text_cut bytes false short = tt

pub reference_cut : (bytes : List ℕ) (b : Bool) → b ≡ nat_lt (length bytes) 4 → OnTrue b (IsCutValue Ref4 bytes)
reference_cut bytes true short = search (rules, fixed_cut)
reference_cut bytes false short = tt

fixed_made : (n : ℕ) (of : ℕ → Datum) (bytes behind : List ℕ) (d : Datum)
    → layout_at (fixed n of) bytes ≡ Ok (d, behind) → (m : ℕ) × (d ≡ of m)
unfolding laid_out
fixed_made n of bytes behind d e = search (rules, ok_pair)

leb_made : (of : ℕ → Datum) (bytes behind : List ℕ) (d : Datum) → layout_at (leb of) bytes ≡ Ok (d, behind)
    → (m : ℕ) × (d ≡ of m)
unfolding laid_out
leb_made of bytes behind d e = by_read (uleb_then bytes) e
  where
    by_read : (r : Result (ℕ × List ℕ) ValueFault)
        → (r >>= λ x. let y : Datum × List ℕ = (of x.0, x.1) in Ok y) ≡ Ok (d, behind) → (m : ℕ) × (d ≡ of m)
    by_read (Ok x) e = (x.0, (ok_pair {E = ValueFault} d (of x.0) behind x.1 (sym e)).0)
    by_read (Err f) e = absurd cc

index1_made : (d : Datum) → IsMade Strx1 d → (m : ℕ) × (d ≡ str_index m)
index1_made d made = search (rules, fixed_made)

index2_made : (d : Datum) → IsMade Strx2 d → (m : ℕ) × (d ≡ str_index m)
index2_made d made = search (rules, fixed_made)

address_made : (d : Datum) → IsMade Addrx d → (m : ℕ) × (d ≡ addr_index m)
address_made d made = search (rules, leb_made)

index_value : (v : Value) (m : ℕ) → view v ≡ str_index m → v ≡ value.StrIndex m
index_value (value.StrIndex x) m e = search (rules)
index_value _ m e = absurd cc

address_value : (v : Value) (m : ℕ) → view v ≡ addr_index m → v ≡ value.AddrIndex m
address_value (value.AddrIndex x) m e = search (rules)
address_value _ m e = absurd cc

-- ---- the value, by the lead

-- a value that has this lead is one of these
abbrev pub HoldsBy : Lead → Datum → Type 0
HoldsBy lead.Index1 v = (m : ℕ) × (v ≡ str_index m)
HoldsBy lead.Index2 v = (m : ℕ) × (v ≡ str_index m)
HoldsBy lead.Address v = (m : ℕ) × (v ≡ addr_index m)
HoldsBy _ v = ⊤

-- the form of an attribute that has this lead
pub lead_form : (l : Lead) (f : Form) (spec : AttributeSpec) → form_of_lead l ≡ Some f → lead_of spec ≡ l
    → spec.form ≡ f
lead_form lead.TypeEntry f spec e is = search (rules, lead_says, form_is)
lead_form lead.Sibling f spec e is = search (rules, lead_says, form_is)
lead_form lead.Specification f spec e is = search (rules, lead_says, form_is)
lead_form lead.Entry f spec e is = search (rules, lead_says, form_is)
lead_form lead.Text f spec e is = search (rules, lead_says, form_is)
lead_form lead.Index1 f spec e is = search (rules, lead_says, form_is)
lead_form lead.Index2 f spec e is = search (rules, lead_says, form_is)
lead_form lead.Address f spec e is = search (rules, lead_says, form_is)
lead_form _ f spec e is = absurd cc

pub holds_by : (l : Lead) (spec : AttributeSpec) (item : ℕ × Datum) → lead_of spec ≡ l → IsRead spec item
    → HoldsBy l item.1
holds_by l spec item is read = by_lead l (λ f e. subst (λ (g : Form). IsMade g item.1) (lead_form l f spec e is)
    read.made)
  where
    by_lead : (l : Lead) → ((f : Form) → form_of_lead l ≡ Some f → IsMade f item.1) → HoldsBy l item.1
    by_lead lead.Index1 made = search (rules, index1_made)
    by_lead lead.Index2 made = search (rules, index2_made)
    by_lead lead.Address made = search (rules, address_made)
    by_lead _ made = tt

-- which leaves no lead but `Other`, where it is no offset
pub other_value : (l : Lead) (v : Value) → leads_on l ≡ true → is_offset_lead l ≡ false → HoldsBy l (view v)
    → ((m : ℕ) → v ≡ value.StrIndex m → is_index_lead l ≡ true → ⊥)
    → ((m : ℕ) → v ≡ value.AddrIndex m → l ≡ lead.Address → ⊥) → l ≡ lead.Other
other_value lead.Index1 v on other h c d = absurd (c h.0 (index_value v h.0 h.1) refl)
other_value lead.Index2 v on other h c d = absurd (c h.0 (index_value v h.0 h.1) refl)
other_value lead.Address v on other h c d = absurd (d h.0 (address_value v h.0 h.1) refl)
other_value lead.Other v on other h c d = refl
other_value _ v on other h c d = absurd cc
