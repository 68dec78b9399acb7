-- State: the values of a declaration that may lead elsewhere, and the steps of a walk over them.
use Rattle.std.specs.Prelude.{◌≡◌, ◌==◌, ◌||◌, ◌&&◌, ◌+◌, ◌*◌, ◌≤◌, ℕ, Bool, not, if◌then◌else◌, List, [], ◌∷◌, length}
use Rattle.dw_forms.specs.declared.form.Form.TheVariants.{Ref4, Strp, Strx1, Strx2, Addrx}
pub use Rattle.dw_forms.specs.declared.leading_steps.Lead.{Lead}
use Rattle.dw_forms.specs.declared.leading_steps.Lead.TheVariants as lead
pub use Rattle.dw_forms.specs.declared.leading_steps.Step.{Step}
use Rattle.dw_forms.specs.Chains.{Numbered}
use Rattle.dw_forms.specs.FormCodes.{may_lead_out, may_refer, Form}
use Rattle.dw_forms.specs.Codes.{DW_AT_type, DW_AT_str_offsets_base, DW_AT_addr_base}
use Rattle.dw_forms.specs.Codes.{DW_AT_sibling, DW_AT_specification, DW_AT_import, DW_AT_signature}
use Rattle.dw_forms.specs.KnownValues.{known_size, does_vary, AttributeSpec}

-- values of the form may lead elsewhere: to a string, an address or an entry, or by another form (DWARF 5, 7.5.5)
abbrev pub may_lead : Form → Bool
may_lead form = may_lead_out form || may_refer form

-- the value of the attribute may lead elsewhere: that of a type and the bases of contributions by their codes
abbrev pub does_lead : AttributeSpec → Bool
does_lead spec =
    may_lead spec.form || spec.attribute == DW_AT_type || spec.attribute == DW_AT_str_offsets_base
    || spec.attribute == DW_AT_addr_base

-- a step is made to the attribute, where the next one is made to the attribute of this number, or none for 0
abbrev pub stops_at : ℕ → AttributeSpec → Bool
stops_at next spec = does_lead spec || (does_vary spec.form && not (next == 0))

-- what a reference in form ref4 leads to: the type of the entry (DWARF 5, 5.1), its next sibling (2.3), the
-- declaration that it completes (2.13.2), or another entry. References of DW_AT_import and DW_AT_signature have rules
-- of their own
abbrev pub reference_lead : ℕ → Lead
reference_lead attribute =
    if attribute == DW_AT_type then lead.TypeEntry
    else (if attribute == DW_AT_sibling then lead.Sibling
    else (if attribute == DW_AT_specification then lead.Specification
    else (if attribute == DW_AT_import || attribute == DW_AT_signature then lead.Other else lead.Entry)))

-- what a value that is no reference leads to, if its form says this: a type is none of these
abbrev pub value_lead : Lead → ℕ → Lead
value_lead says attribute = if attribute == DW_AT_type then lead.Other else says

-- the same, where its form is this one (DWARF 5, 7.5.5)
abbrev pub lead_by : Form → AttributeSpec → Lead
lead_by Ref4 spec = reference_lead spec.attribute
lead_by Strp spec = value_lead lead.Text spec.attribute
lead_by Strx1 spec = value_lead lead.Index1 spec.attribute
lead_by Strx2 spec = value_lead lead.Index2 spec.attribute
lead_by Addrx spec = value_lead lead.Address spec.attribute
lead_by _ spec = if does_lead spec then lead.Other else lead.Passed

-- what the value of an attribute that is declared so leads to
abbrev pub lead_of : AttributeSpec → Lead
lead_of spec = lead_by spec.form spec

-- the number of the attribute to which the first step is made, or 0
unfoldable pub step_in : List (Numbered AttributeSpec) → ℕ
step_in [] = 0
step_in (n ∷ list) = if stops_at (step_in list) n.item then n.number else step_in list

-- the sum of the known sizes of the values before it, or of all
unfoldable pub skip_in : ℕ → List (Numbered AttributeSpec) → ℕ
skip_in size [] = 0
skip_in size (n ∷ list) =
    if stops_at (step_in list) n.item then 0 else skip_in size list + known_size size n.item.form

-- what the value of that attribute leads to
unfoldable pub lead_in : List (Numbered AttributeSpec) → Lead
lead_in [] = lead.Nothing
lead_in (n ∷ list) = if stops_at (step_in list) n.item then lead_of n.item else lead_in list

-- this is the first step in the list; each address that it passes takes 8 bytes, or 4
pub record IsFirstStep (list : List (Numbered AttributeSpec)) (s : Step) : Type 0 where
  pub lead : s.lead ≡ lead_in list
  pub to : s.to ≡ step_in list
  pub with_8 : s.skip_with_8 ≡ skip_in 8 list
  pub with_4 : s.skip_with_8 ≡ skip_in 4 list + 4 * s.addresses
  pub small : s.skip_with_8 ≤ 0xff * length list
  pub few : s.addresses ≤ length list
