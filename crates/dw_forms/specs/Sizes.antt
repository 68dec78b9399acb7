-- State: how many bytes a value has, if all values of its form have as many; and the bytes after the values of a
-- declaration.
use Rattle.std.specs.Prelude.{◌≡◌, ℕ, ◌+◌, List, [], ◌∷◌, Bool, true, if◌then◌else◌, Option, Some, None, Result, Ok}
use Rattle.std.specs.List.{list_all}
use Rattle.dw_forms.specs.declared.abbrev.AttributeSpec.{AttributeSpec}
use Rattle.dw_forms.specs.FormCodes.{is_allowed, Form}
use Rattle.dw_forms.specs.Steps.{◌>>=◌}
use Rattle.dw_forms.specs.Value.{Datum, Layout, fixed, exactly, nothing}
use Rattle.dw_forms.specs.FormTable.{layout_of}
use Rattle.dw_forms.specs.ValueReading.{value_at, ValueFault}

-- the size that all values in this layout have
abbrev pub size_of : Layout → Option ℕ
size_of (fixed size of) = Some size
size_of (exactly size of) = Some size
size_of (nothing datum) = Some 0
size_of layout = None

-- the size that all values of the form have, where addresses have this size
abbrev pub fixed_size_of : ℕ → Form → Option ℕ
fixed_size_of size form = size_of (layout_of size form)

-- the bytes after the value at the front
unfoldable pub rest_at : ℕ → Form → ℕ → List ℕ → Result (List ℕ) ValueFault
rest_at version form size bytes = value_at version form size bytes >>= λ x. Ok x.1

-- the sum of two sizes, where there are both
abbrev pub plus : Option ℕ → Option ℕ → Option ℕ
plus (Some m) (Some n) = Some (m + n)
plus m n = None

-- the size of each value of the form in units of this version, where it is allowed there and has one size
abbrev pub allowed_size : ℕ → ℕ → Form → Option ℕ
allowed_size version size form = if is_allowed version form then fixed_size_of size form else None

-- the sum of the sizes of the values of these attributes, where each is allowed and has one size
abbrev pub fixed_sum : ℕ → ℕ → List AttributeSpec → Option ℕ
fixed_sum version size [] = Some 0
fixed_sum version size (spec ∷ specs) = plus (allowed_size version size spec.form) (fixed_sum version size specs)

-- whether each form is allowed in units of this version
abbrev pub are_allowed : ℕ → List AttributeSpec → Bool
are_allowed version specs = list_all (λ spec. is_allowed version spec.form) specs

-- the values of these attributes are read one after another, each form being allowed, and these bytes come after
-- the last
abbrev pub ValuesEnd : ℕ → ℕ → List AttributeSpec → List ℕ → List ℕ → Type 0
ValuesEnd version size [] bytes rest = bytes ≡ rest
ValuesEnd version size (spec ∷ specs) bytes rest =
    (is_allowed version spec.form ≡ true) × (v : Datum) × (after : List ℕ)
    × (value_at version spec.form size bytes ≡ Ok (v, after)) × ValuesEnd version size specs after rest
