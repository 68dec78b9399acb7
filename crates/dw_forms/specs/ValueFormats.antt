-- Chapter: which bytes spell which value in which form (DWARF 5, 7.5.5 and 7.5.6).
use Rattle.std.specs.Prelude.{ℕ, List, Bool, false, Option, ℤ}
use Rattle.dw_forms.specs.declared.form.Form.TheVariants as form
use Rattle.dw_forms.specs.declared.value.ValueFault.TheVariants.{Cut, BadIndirect}
use Rattle.dw_forms.specs.Faults.{value_fault_of, ValueFault}
use Rattle.dw_forms.specs.FormCodes.{form_of, is_allowed, Form}
use Rattle.dw_forms.specs.Formats.{Format, and_then, nothing as no_bytes, failing, mapped, choose, found, renamed}
use Rattle.dw_forms.specs.BaseFormats.{uleb, sleb, so_many, fixed_number, zero_ended}
use Rattle.dw_forms.specs.Value.{Datum, Layout, fixed, leb, signed_leb, counted, leb_counted, ended, exactly, nothing}
use Rattle.dw_forms.specs.Value.{named}
use Rattle.dw_forms.specs.FormTable.{layout_of}

-- an unsigned LEB128 number
unfoldable pub leb_number : Format ℕ ValueFault
leb_number = renamed (λ bytes. value_fault_of) uleb

-- a signed LEB128 number
unfoldable pub signed_leb_number : Format ℤ ValueFault
signed_leb_number = renamed (λ bytes. value_fault_of) sleb

-- as many bytes as a number of so many bytes says
unfoldable pub counted_bytes : ℕ → Format (List ℕ) ValueFault
counted_bytes size = and_then (fixed_number Cut size) (so_many Cut)

-- as many bytes as a LEB128 number says
unfoldable pub leb_counted_bytes : Format (List ℕ) ValueFault
leb_counted_bytes = and_then leb_number (so_many Cut)

-- the value in a layout
unfoldable pub laid_out : Layout → Format Datum ValueFault
laid_out (fixed size of) = mapped of (fixed_number Cut size)
laid_out (leb of) = mapped of leb_number
laid_out (signed_leb of) = mapped of signed_leb_number
laid_out (counted size of) = mapped of (counted_bytes size)
laid_out (leb_counted of) = mapped of leb_counted_bytes
laid_out (ended of) = mapped of (zero_ended Cut)
laid_out (exactly size of) = mapped of (so_many Cut size)
laid_out (nothing datum) = no_bytes datum
laid_out named = failing BadIndirect

-- whether an indirect value may name the form, in a unit of this version
abbrev pub may_be_named : ℕ → Form → Bool
may_be_named version form.Indirect = false
may_be_named version (form.ImplicitConst number) = false
may_be_named version f = is_allowed version f

-- the value of a form that an indirect value names, in a unit of this version where an address has this size
abbrev pub named_value : ℕ → ℕ → Option Form → Format Datum ValueFault
named_value version size o = found o (failing BadIndirect) (λ f.
    choose (may_be_named version f) (laid_out (layout_of size f)) (failing BadIndirect))

-- the value of a form, in a unit of this version where an address has this size
abbrev pub attribute_value : ℕ → Form → ℕ → Format Datum ValueFault
attribute_value version form.Indirect size = and_then leb_number (λ code. named_value version size (form_of code))
attribute_value version f size = laid_out (layout_of size f)

-- the bytes spell the value in this form
abbrev pub Val : ℕ → Form → ℕ → List ℕ → Datum → Type 0
Val version f size = (attribute_value version f size).Spells

-- why the bytes begin with no value of this form, by the first part that is wrong
abbrev pub ValFails : ℕ → Form → ℕ → List ℕ → ValueFault → Type 0
ValFails version f size = (attribute_value version f size).Fails
