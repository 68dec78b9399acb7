-- Chapter: a value read from left to right, or the first fault.
use Rattle.std.specs.Prelude.{◌≡◌, ℕ, List, drop, Option, Result, Ok, Err}
use Rattle.dw_forms.specs.declared.form.Form.{Form}
pub use Rattle.dw_forms.specs.declared.value.ValueFault.{ValueFault}
use Rattle.dw_forms.specs.declared.value.ValueFault.TheVariants.{Cut}
use Rattle.dw_forms.specs.BaseFormats.{taken_at, null_terminated_at, fixed_number}
use Rattle.dw_forms.specs.Value.{Datum, view, Layout, Value}
use Rattle.dw_forms.specs.ValueFormats.{leb_number, counted_bytes, leb_counted_bytes}
use Rattle.dw_forms.specs.ValueFormats.{laid_out, named_value, attribute_value}

-- what a function returned, seen by view, is what reading gives
abbrev pub Gives : {X Y E : Type 0} → (X → Y) → Result X E → Result Y E → Type 0
Gives view (Ok x) read = read ≡ Ok (view x)
Gives view (Err e) read = read ≡ Err e

-- a number of so many bytes, lowest first, and the bytes after it; so for all below
abbrev pub fixed_at : ℕ → List ℕ → Result (ℕ × List ℕ) ValueFault
fixed_at size = (fixed_number Cut size).read

-- an unsigned LEB128 number
abbrev pub uleb_then : List ℕ → Result (ℕ × List ℕ) ValueFault
uleb_then = leb_number.read

-- so many bytes
abbrev pub block_at : ℕ → List ℕ → Result (List ℕ × List ℕ) ValueFault
block_at = taken_at Cut

-- as many bytes as a number of so many bytes says
abbrev pub counted_at : ℕ → List ℕ → Result (List ℕ × List ℕ) ValueFault
counted_at size = (counted_bytes size).read

-- as many bytes as a LEB128 number says
abbrev pub leb_counted_at : List ℕ → Result (List ℕ × List ℕ) ValueFault
leb_counted_at = leb_counted_bytes.read

-- the bytes before a zero byte
abbrev pub ended_at : List ℕ → Result (List ℕ × List ℕ) ValueFault
ended_at = null_terminated_at Cut

-- the value in a layout
abbrev pub layout_at : Layout → List ℕ → Result (Datum × List ℕ) ValueFault
layout_at layout = (laid_out layout).read

-- what a function returned, a value and how many bytes it has, is what reading gives in the layout
abbrev pub GivesIn : Layout → List ℕ → Result (Value × ℕ) ValueFault → Type 0
GivesIn layout bytes result = Gives (λ x. (view x.0, drop x.1 bytes)) result (layout_at layout bytes)

-- the value of a form that an indirect value names
abbrev pub named_at : ℕ → Option Form → ℕ → List ℕ → Result (Datum × List ℕ) ValueFault
named_at version o size = (named_value version size o).read

-- the value of a form
abbrev pub value_at : ℕ → Form → ℕ → List ℕ → Result (Datum × List ℕ) ValueFault
value_at version f size = (attribute_value version f size).read
