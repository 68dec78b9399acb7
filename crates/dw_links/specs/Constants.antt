-- Chapter: the number under an attribute (DWARF 5, 2.19 and 7.5.5), and the language of a unit (3.1.1).
use Rattle.std.specs.Prelude.{ℕ, ◌^◌, ◌-◌, ℤ, pos, negsuc, ◌≤ℤ◌, Bool, true, false, List, Option, None, Some, slice_get}
use Rattle.std.specs.Option.{option_map_or}
use Rattle.dw_forms.specs.Codes.{DW_AT_language}
use Rattle.dw_forms.specs.Value.{Datum, unsigned, signed}
use Rattle.dw_entries.specs.Lookups.{value_at_entry, value_in, Entry, PlacedUnit, values_of}
use Rattle.dw_entries.specs.Units.{head_of}
pub use Rattle.dw_links.specs.declared.constant.Constant.{Constant}
use Rattle.dw_links.specs.declared.constant.Constant.TheVariants.{Absent, NotNumber, Unsigned, Signed}

-- a value as a number: data1 to data8 and udata have no sign, sdata and implicit_const have one (7.5.5)
abbrev pub constant_in : Datum → Constant
constant_in (unsigned n) = Unsigned n
constant_in (signed n) = Signed n
constant_in _ = NotNumber

-- the same, if the attribute may be absent
abbrev pub constant_of : Option Datum → Constant
constant_of None = Absent
constant_of (Some v) = constant_in v

-- the entry has the attribute
abbrev pub is_present : Constant → Bool
is_present Absent = false
is_present _ = true

-- the number under an attribute
abbrev pub number_of_constant : Constant → Option ℤ
number_of_constant (Unsigned n) = Some (pos n)
number_of_constant (Signed n) = Some n
number_of_constant _ = None

-- a number of 0 or more
abbrev pub natural : ℤ → Option ℕ
natural (pos n) = Some n
natural (negsuc n) = None

-- the number of 0 or more under an attribute
abbrev pub natural_of : Constant → Option ℕ
natural_of (Unsigned n) = Some n
natural_of (Signed n) = natural n
natural_of _ = None

-- below 0
abbrev pub is_below_zero : ℤ → Bool
is_below_zero (pos n) = false
is_below_zero (negsuc n) = true

-- the attribute is a number below 0
abbrev pub is_negative : Constant → Bool
is_negative (Signed n) = is_below_zero n
is_negative _ = false

-- a number of 64 bits, with or without a sign
abbrev pub IsOf64Bits : ℤ → Type 0
IsOf64Bits n = (negsuc (2 ^ 63 - 1) ≤ℤ n) × (n ≤ℤ pos (2 ^ 64 - 1))

-- the number of an attribute of an entry, or that it is absent or no number
abbrev pub constant_at : Entry → (attribute : ℕ) → Constant
constant_at e attribute = constant_of (value_at_entry e attribute)

-- DW_AT_language of the first entry of a unit
abbrev pub language_of : PlacedUnit → Constant
language_of u = constant_of (value_in (values_of (head_of u.unit.root)) DW_AT_language)

-- the same of the unit with a number
abbrev pub language_at : List PlacedUnit → (number : ℕ) → Constant
language_at units number = option_map_or language_of (slice_get units number) Absent
