-- Chapter: the items of a unit as formats (DWARF 5, 7.5.2 and 7.5.3): the code of an abbreviation declaration, and the
-- values of the attributes that it declares; or a null. The first part that is missing is the fault.
use Rattle.std.specs.Prelude.{◌≡◌, ℕ, Bool, true, List, [], ◌∷◌, Option, Result, Ok, ◌==◌, length, if◌then◌else◌}
use Rattle.std.proofs.Props.{props}
use Rattle.dw_forms.specs.declared.leb.NumberFault.{NumberFault}
use Rattle.dw_forms.specs.declared.leb.NumberFault.TheVariants as number
use Rattle.dw_forms.specs.declared.value.ValueFault.{ValueFault}
use Rattle.dw_forms.specs.declared.value.ValueFault.TheVariants as value
use Rattle.dw_forms.specs.BaseFormats.{uleb}
use Rattle.dw_forms.specs.Datums.{Datum-set}
use Rattle.dw_forms.specs.Formats.{Format, and_then, nothing, failing, choose, found, mapped, renamed}
use Rattle.dw_forms.specs.Steps.{◌>>=◌}
use Rattle.dw_forms.specs.ValueFormats.{attribute_value}
use Rattle.dw_forms.specs.declared.rule.Rule.TheVariants.{NoUnitEntry, WrongUnitTag, UndeclaredCode, Cut, BadNumber}
use Rattle.dw_forms.specs.declared.rule.Rule.TheVariants.{BadIndirect, FormVersion}
pub use Rattle.dw_entries.specs.declared.fault.Failing.{Failing}
use Rattle.dw_entries.specs.Grammar.{Datum, Declaration, AttributeSpec, Context, declared, Attribute, Head, is_allowed}
use Rattle.dw_entries.specs.Header.{HeaderKind, fits_tag, Rule}
use Rattle.dw_entries.specs.Items.{Item, entry, null}
use Rattle.dw_forms.specs.WithBytes.{with_bytes, squashed}

-- a rule that fails, at the value of an attribute or at no value (0)
abbrev pub failing_by : Rule → ℕ → Failing
failing_by rule attribute = record { rule = rule; attribute = attribute }

-- the rule that the fault of a number breaks
abbrev pub number_rule : NumberFault → Rule
number_rule number.Cut = Cut
number_rule number.BadNumber = BadNumber

-- the rule that the fault of a value breaks
abbrev pub value_rule : ValueFault → Rule
value_rule value.Cut = Cut
value_rule value.BadNumber = BadNumber
value_rule value.BadIndirect = BadIndirect

-- ---- values

pub values_set : (x y : Result (Datum × List ℕ) ValueFault) (p q : x ≡ y) → p ≡ q
values_set = hlevel (props, Datum-set)

-- a value in its form
abbrev pub value_in : Context → AttributeSpec → Format Datum ValueFault
value_in x spec = squashed (attribute_value x.version spec.form x.address_size) values_set

-- the attribute with this code, a value and its bytes
abbrev pub as_attribute : ℕ → Datum × List ℕ → Attribute
as_attribute code v = record { code = code; value = v.0; bytes = v.1 }

-- an attribute by its value
abbrev pub valued : Context → AttributeSpec → Format Attribute Failing
valued x spec =
    renamed (λ bytes f. failing_by (value_rule f) spec.attribute)
    (mapped (as_attribute spec.attribute) (with_bytes (value_in x spec)))

-- an attribute that is declared, if the version has its form
unfoldable pub attribute : Context → AttributeSpec → Format Attribute Failing
attribute x spec =
    choose (is_allowed x.version spec.form) (valued x spec) (failing (failing_by FormVersion spec.attribute))

-- one for each that is declared, in their order
unfoldable pub attributes : Context → List AttributeSpec → Format (List Attribute) Failing
attributes x [] = nothing []
attributes x (spec ∷ specs) = and_then (attribute x spec) (λ a. mapped (λ more. a ∷ more) (attributes x specs))

-- ---- entries

-- the code of a declaration, or of a null
unfoldable pub code : Format ℕ Failing
code = renamed (λ bytes f. failing_by (number_rule f) 0) uleb

-- the entry of this declaration, with these bytes of its code
abbrev pub as_head : Declaration → List ℕ → List Attribute → Head
as_head d code attributes = record { decl = d; code = code; attributes = attributes }

-- an entry after its code, if there is a declaration and its tag fits
unfoldable pub head_by : Context → (ℕ → Bool) → Option Declaration → List ℕ → Format Head Failing
head_by x fits d code = found d (failing (failing_by UndeclaredCode 0)) (λ d.
    choose (fits d.tag) (mapped (as_head d code) (attributes x d.attributes)) (failing (failing_by WrongUnitTag 0)))

-- an item: a null, which has the code 0, or an entry with any tag
unfoldable pub item : Context → Format Item Failing
item x = and_then (with_bytes code) (λ c.
    choose (c.0 == 0) (nothing (null c.1)) (mapped entry (head_by x (λ tag. true) (declared x c.0) c.1)))

-- the first entry of a unit, whose tag is asked before its values
unfoldable pub fitting_head : Context → HeaderKind → Format Head Failing
fitting_head x kind = and_then (with_bytes code) (λ c.
    choose (c.0 == 0) (failing (failing_by NoUnitEntry 0)) (head_by x (fits_tag kind) (declared x c.0) c.1))

-- the fault where no bytes are left, and any other where some are
abbrev pub unless_empty : List ℕ → Failing → Failing
unless_empty bytes f = if length bytes == 0 then failing_by NoUnitEntry 0 else f

-- the first item of a unit, which is missing where no bytes are left
unfoldable pub first_head : Context → HeaderKind → Format Head Failing
first_head x kind = renamed unless_empty (fitting_head x kind)

-- the item after these
abbrev pub next_item : Context → HeaderKind → List Item → Format Item Failing
next_item x kind [] = mapped entry (first_head x kind)
next_item x kind (i ∷ is) = item x

-- ---- what functions keep of what is read

-- the bytes after what was read
abbrev pub bytes_after : {A : Type 0} → Result (A × List ℕ) Failing → Result (List ℕ) Failing
bytes_after r = r >>= λ x. Ok x.1
