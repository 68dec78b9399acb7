-- State: what is known of the values of an attribute before any entry is read, and the bytes after values.
use Rattle.std.specs.Prelude.{ℕ, nat_lt, if◌then◌else◌, Bool, true, List, [], ◌∷◌, length, drop, is_none}
use Rattle.std.specs.Prelude.{Result, Ok, Err, Option, Some, None, false, find, ◌==◌}
use Rattle.std.specs.Option.{unwrap_or}
use Rattle.std.specs.List.{sum_by, list_any}
pub use Rattle.dw_forms.specs.declared.form.Form.{Form}
use Rattle.dw_forms.specs.declared.form.Form.TheVariants.{FlagPresent}
use Rattle.dw_forms.specs.declared.value.ValueFault.{ValueFault}
use Rattle.dw_forms.specs.declared.value.ValueFault.TheVariants.{Cut}
pub use Rattle.dw_forms.specs.declared.abbrev.AttributeSpec.{AttributeSpec}
use Rattle.dw_forms.specs.Steps.{◌>>=◌}
use Rattle.dw_forms.specs.Sizes.{fixed_size_of, rest_at}

-- the size of each value of the form, 0 where they have no one size
abbrev pub known_size : ℕ → Form → ℕ
known_size size form = unwrap_or (fixed_size_of size form) 0

-- whether the values of the form have no one size, which the size of addresses does not decide
abbrev pub does_vary : Form → Bool
does_vary form = is_none (fixed_size_of 8 form)

-- the sum of the sizes of the values of these attributes, as far as they have one size each
abbrev pub known_sum : ℕ → List AttributeSpec → ℕ
known_sum size specs = sum_by (λ (spec : AttributeSpec). known_size size spec.form) specs

-- what a form says of a flag without a value: flag_present is true (DWARF 5, 7.5.5)
abbrev pub known_flag : Form → Option Bool
known_flag FlagPresent = Some true
known_flag _ = None

-- the same of an attribute, which is false where it is not there (DWARF 5, 7.5.3)
abbrev pub flag_by : Option AttributeSpec → Option Bool
flag_by (Some spec) = known_flag spec.form
flag_by None = Some false

-- whether the flag of this code is true in each entry, as far as its attributes say so without a value
abbrev pub flag_in : ℕ → List AttributeSpec → Option Bool
flag_in code specs = flag_by (find (λ (spec : AttributeSpec). spec.attribute == code) specs)

-- the size of the values of these attributes together, if each has one size
abbrev pub whole_in : ℕ → List AttributeSpec → Option ℕ
whole_in size specs =
    if list_any (λ (spec : AttributeSpec). does_vary spec.form) specs then None else Some (known_sum size specs)

-- the bytes after so many
abbrev pub rest_beyond : ℕ → List ℕ → Result (List ℕ) ValueFault
rest_beyond len bytes = if nat_lt (length bytes) len then Err Cut else Ok (drop len bytes)

-- the bytes after the values of these attributes, which are read one after another
unfoldable pub values_end : ℕ → ℕ → List AttributeSpec → List ℕ → Result (List ℕ) ValueFault
values_end version size [] bytes = Ok bytes
values_end version size (spec ∷ specs) bytes =
    rest_at version spec.form size bytes >>= λ rest. values_end version size specs rest
