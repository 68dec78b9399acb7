-- State: the attributes of an entry that are still to be read.
use Rattle.std.specs.Prelude.{◌≡◌, ℕ, List, [], ◌++◌, Err, flat_map}
use Rattle.dw_forms.specs.declared.form.Form.{Form}
use Rattle.dw_forms.specs.declared.value.ValueFault.TheVariants.{Cut}
use Rattle.dw_forms.specs.ValueReading.{value_at}
pub use Rattle.dw_entries.specs.Grammar.{AttributeSpec, Context, Attribute, attribute_bytes, AreAttributes}

-- what values are read by in a unit of this version with addresses of this size: no table is needed
abbrev pub value_context : ℕ → ℕ → Context
value_context version address_size = record { table = []; address_size = address_size; version = version }

-- the bytes begin with attributes that are declared so, and go on
pub record Begin (x : Context) (specs : List AttributeSpec) (bytes : List ℕ) (found : List Attribute
    × List ℕ) : Type 0 where
  pub are : AreAttributes x specs found.0
  pub spelled : bytes ≡ flat_map attribute_bytes found.0 ++ found.1

-- the attributes at the front of the bytes, and the bytes after them
abbrev pub Left : Context → List AttributeSpec → List ℕ → Type 0
Left x specs bytes = (found : List Attribute × List ℕ) × Begin x specs bytes found

-- the bytes end inside a value of the form, in each version and for each size of addresses
abbrev pub IsCutValue : Form → List ℕ → Type 0
IsCutValue form bytes = (version size : ℕ) → value_at version form size bytes ≡ Err Cut
