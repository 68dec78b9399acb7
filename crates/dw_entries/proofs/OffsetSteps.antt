-- One attribute whose value is an offset of four bytes.
use Rattle.std.proofs.Common.{rules, ◌≡◌, ℕ, ◌≤◌, ◌-◌, true, List, [], ◌∷◌, length, take, drop, map, Some, Result, Ok, Err, refl, IfSome}
use Rattle.dw_forms.specs.declared.attributes.Attributes.{Attributes}
use Rattle.dw_forms.specs.declared.form.Form.TheVariants.{Ref4, Strp}
use Rattle.dw_forms.specs.declared.leading_steps.Lead.TheVariants as lead
use Rattle.dw_forms.specs.declared.value.ValueFault.{ValueFault}
use Rattle.dw_forms.specs.Steps.{◌>>=◌}
use Rattle.dw_forms.specs.Suffixes.{Ends, specs_in}
use Rattle.dw_forms.specs.Value.{Datum, fixed, str}
use Rattle.dw_forms.specs.ValueFormats.{laid_out}
use Rattle.dw_forms.specs.ValueReading.{fixed_at, layout_at, value_at}
use Rattle.dw_entries.specs.Leading.{BeginsWithForm, BeginsWithLead, ReadsFirst, form_of_lead, AttributeSpec}
use Rattle.dw_entries.specs.Led.{is_offset_lead, offset_by, Lead, Form}
use Rattle.dw_entries.proofs.OverLaws.{form_fits, specs_left, Values}
use Rattle.dw_entries.proofs.ValueSteps.{form_reads, left_after, reads_first, steps_after, value_of, Left, value_context}

-- there is one
pub offset_on : (l : Lead) → is_offset_lead l ≡ true → l ≡ lead.Nothing → ⊥
offset_on l is nothing = search (rules)

-- the form of an attribute that has such a lead
abbrev pub offset_form : Lead → Form
offset_form lead.Text = Strp
offset_form _ = Ref4

form_is : (l : Lead) → is_offset_lead l ≡ true → Some (offset_form l) ≡ form_of_lead l
form_is lead.TypeEntry is = refl
form_is lead.Sibling is = refl
form_is lead.Specification is = refl
form_is lead.Entry is = refl
form_is lead.Text is = refl
form_is _ is = absurd cc

-- the value in a layout, by the number in its bytes
in_layout : (of : ℕ → Datum) (bytes : List ℕ) (r : Result (ℕ × List ℕ) ValueFault) → fixed_at 4 bytes ≡ r
    → layout_at (fixed 4 of) bytes ≡ (r >>= λ x. let y : Datum × List ℕ = (of x.0, x.1) in Ok y)
unfolding laid_out
in_layout of bytes r e = search (rules)

module _ (version size : ℕ) (bytes : List ℕ) where
  value_by : (l : Lead) (n : ℕ) (rest : List ℕ) → fixed_at 4 bytes ≡ Ok (n, rest)
      → value_at version (offset_form l) size bytes ≡ Ok (offset_by l n, rest)
  value_by lead.Text n rest e = search (rules, in_layout)
  value_by _ n rest e = search (rules, in_layout)

  fault_by : (l : Lead) (f : ValueFault) → fixed_at 4 bytes ≡ Err f
      → value_at version (offset_form l) size bytes ≡ Err f
  fault_by lead.Text f e = in_layout str bytes (Err f) e
  fault_by _ f e = search (rules, in_layout)

module _ (v : Values) (l : Lead) (is : is_offset_lead l ≡ true) (begins : BeginsWithLead l (specs_left v))
    (spec : AttributeSpec) (rest : Attributes)
    (first : Ends v.attributes rest (record { number = v.attributes.first; item = spec } ∷ [])) where
  fits : IfSome (Some (offset_form l)) (BeginsWithForm (specs_left v))
  fits = form_fits (Some (offset_form l)) l (specs_left v) (form_is l is) begins

  pub offset_there : (f : ValueFault) → fixed_at 4 v.bytes.now ≡ Err f → ⊥
  offset_there f e =
      form_reads v (Some (offset_form l)) spec rest (offset_form l) first fits refl f
      (fault_by v.version v.address_size v.bytes.now l f e)

  module _ (n : ℕ) (within : 4 ≤ length v.bytes.now) (read : fixed_at 4 v.bytes.now ≡ Ok (n, drop 4 v.bytes.now))
    where
      abbrev LeftAfter : Type 0
      LeftAfter =
          Left (value_context v.version v.address_size) (specs_in rest)
          (take (length v.bytes.now - 4) (drop 4 v.bytes.now))

      pub offset_left : LeftAfter
      offset_left =
          left_after v (Some (offset_form l)) spec rest (offset_form l) first fits refl (offset_by l n) 4 within
          (value_by v.version v.address_size v.bytes.now l n (drop 4 v.bytes.now) read)

      pub offset_steps : (m : LeftAfter)
          → map value_of v.left.0.0 ≡ (spec.attribute, offset_by l n) ∷ map value_of m.0.0
      offset_steps =
          steps_after v (Some (offset_form l)) spec rest (offset_form l) first fits refl (offset_by l n) 4 within
          (value_by v.version v.address_size v.bytes.now l n (drop 4 v.bytes.now) read)

      pub offset_first : ReadsFirst (specs_left v) (specs_in rest) (spec.attribute, offset_by l n)
      offset_first =
          reads_first v (Some (offset_form l)) spec rest (offset_form l) first fits refl (offset_by l n) 4 within
          (value_by v.version v.address_size v.bytes.now l n (drop 4 v.bytes.now) read)
