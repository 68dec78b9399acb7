-- Chapter: what a value leads to, as its attribute and its form say (DWARF 5, 2.3, 2.13.2, 5.1 and 7.5.5).
use Rattle.std.specs.Prelude.{◌≡◌, ℕ, Bool, true, false, List, ◌∷◌, ◌++◌, Ok}
use Rattle.std.specs.List.{list_any}
use Rattle.dw_forms.specs.declared.abbrev.AttributeSpec.{AttributeSpec}
pub use Rattle.dw_forms.specs.declared.form.Form.{Form}
pub use Rattle.dw_forms.specs.declared.leading_steps.Lead.{Lead}
use Rattle.dw_forms.specs.declared.leading_steps.Lead.TheVariants as lead
use Rattle.dw_forms.specs.Codes.{DW_AT_type, DW_AT_sibling, DW_AT_specification}
use Rattle.dw_forms.specs.Value.{Datum, view, ref_unit, str, str_index, addr_index}
use Rattle.dw_forms.specs.ValueReading.{value_at}
use Rattle.dw_forms.specs.LeadingWalks.{does_lead, lead_of}
use Rattle.dw_entries.specs.declared.led.Led.{Led}
use Rattle.dw_entries.specs.declared.led.Led.TheVariants as led

-- the attribute and its value
abbrev pub item_of : Led → ℕ × Datum
item_of (led.Type offset) = (DW_AT_type, ref_unit offset)
item_of (led.Sibling offset) = (DW_AT_sibling, ref_unit offset)
item_of (led.Specification offset) = (DW_AT_specification, ref_unit offset)
item_of (led.Entry attribute offset) = (attribute, ref_unit offset)
item_of (led.Text attribute offset) = (attribute, str offset)
item_of (led.Index attribute index) = (attribute, str_index index)
item_of (led.Address attribute index) = (attribute, addr_index index)
item_of (led.Other attribute value) = (attribute, view value)

-- the lead is that of the index of a string, of one byte or of two
abbrev pub is_index_lead : Lead → Bool
is_index_lead lead.Index1 = true
is_index_lead lead.Index2 = true
is_index_lead _ = false

-- the lead of its attribute
abbrev pub HasLead : Led → Lead → Type 0
HasLead (led.Type offset) l = l ≡ lead.TypeEntry
HasLead (led.Sibling offset) l = l ≡ lead.Sibling
HasLead (led.Specification offset) l = l ≡ lead.Specification
HasLead (led.Entry attribute offset) l = l ≡ lead.Entry
HasLead (led.Text attribute offset) l = l ≡ lead.Text
HasLead (led.Index attribute index) l = is_index_lead l ≡ true
HasLead (led.Address attribute index) l = l ≡ lead.Address
HasLead (led.Other attribute value) l = l ≡ lead.Other

-- the attribute is declared so, which says what its value leads to
pub record IsLedBy (it : Led) (spec : AttributeSpec) : Type 0 where
  pub has_lead : HasLead it (lead_of spec)
  pub has_code : spec.attribute ≡ (item_of it).0

-- some attributes whose values do not lead elsewhere are passed, the next one leads there, and these are after it
pub record LeadsNext (it : Led) (specs behind : List AttributeSpec) : Type 0 where
  pub passed : List AttributeSpec
  pub spec : AttributeSpec
  pub parts : specs ≡ passed ++ spec ∷ behind
  pub none_leads : list_any does_lead passed ≡ false
  pub is_led : IsLedBy it spec

-- the lead is that of an offset of four bytes
abbrev pub is_offset_lead : Lead → Bool
is_offset_lead lead.TypeEntry = true
is_offset_lead lead.Sibling = true
is_offset_lead lead.Specification = true
is_offset_lead lead.Entry = true
is_offset_lead lead.Text = true
is_offset_lead _ = false

-- the value that an offset is, as its lead says
abbrev pub offset_by : Lead → ℕ → Datum
offset_by lead.Text offset = str offset
offset_by _ offset = ref_unit offset

-- values that have this lead may lead elsewhere
abbrev pub leads_on : Lead → Bool
leads_on lead.Nothing = false
leads_on lead.Passed = false
leads_on _ = true

-- some bytes begin with this value of the form
pub record IsMade (form : Form) (value : Datum) : Type 0 where
  pub version : ℕ
  pub size : ℕ
  pub bytes : List ℕ
  pub behind : List ℕ
  pub reads : value_at version form size bytes ≡ Ok (value, behind)

-- the attribute is declared so, and its value was read in its form
pub record IsRead (spec : AttributeSpec) (item : ℕ × Datum) : Type 0 where
  pub has_code : spec.attribute ≡ item.0
  pub made : IsMade spec.form item.1
