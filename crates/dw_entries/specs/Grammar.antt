-- Chapter: an entry and its attributes, as they are spelled (DWARF 5, 2.2 and 7.5.2).
use Rattle.std.specs.Prelude.{◌≡◌, ℕ, true, false, List, [], ◌∷◌, ◌++◌, Option, Some, ◌==◌, find, flat_map}
pub use Rattle.dw_forms.specs.declared.abbrev.AttributeSpec.{AttributeSpec}
pub use Rattle.dw_forms.specs.Abbrev.{Declaration}
pub use Rattle.dw_forms.specs.FormCodes.{is_allowed}
use Rattle.dw_forms.specs.Leb.{Uleb}
pub use Rattle.dw_forms.specs.Value.{Datum}
use Rattle.dw_forms.specs.ValueFormats.{Val}

-- what the bytes of a unit are read by: its abbreviation table, the size of an address, and the version
pub record Context : Type 0 where
  pub table : List Declaration
  pub address_size : ℕ
  pub version : ℕ

-- the declaration with this code
unfoldable pub declared_in : List Declaration → ℕ → Option Declaration
declared_in table code = find (λ d. d.code == code) table

-- the declaration with this code in the unit's table
abbrev pub declared : Context → ℕ → Option Declaration
declared x code = declared_in x.table code

-- an attribute of an entry: its code, its value, and the bytes that spell the value
pub record Attribute : Type 0 where
  pub code : ℕ
  pub value : Datum
  pub bytes : List ℕ

-- the attribute that is declared, with a value in a form that the version has
pub record IsAttribute (x : Context) (spec : AttributeSpec) (a : Attribute) : Type 0 where
  pub code : a.code ≡ spec.attribute
  pub allowed : is_allowed x.version spec.form ≡ true
  pub value : ∥ Val x.version spec.form x.address_size a.bytes a.value ∥₁

-- one for each that is declared, in their order
abbrev pub AreAttributes : Context → List AttributeSpec → List Attribute → Type 0
AreAttributes x [] [] = Unit {0}
AreAttributes x [] (a ∷ more) = ⊥
AreAttributes x (spec ∷ specs) [] = ⊥
AreAttributes x (spec ∷ specs) (a ∷ more) = IsAttribute x spec a × AreAttributes x specs more

-- an entry without its children: its declaration, the bytes of its code, and its attributes
pub record Head : Type 0 where
  pub decl : Declaration
  pub code : List ℕ
  pub attributes : List Attribute

-- the bytes of an attribute's value
abbrev pub attribute_bytes : Attribute → List ℕ
attribute_bytes a = a.bytes

-- the code, and the value of each attribute
abbrev pub head_bytes : Head → List ℕ
head_bytes h = h.code ++ flat_map attribute_bytes h.attributes

-- the code is not 0, and the table declares it so
pub record IsHead (x : Context) (h : Head) : Type 0 where
  pub code : Uleb h.code h.decl.code
  pub not_null : (h.decl.code == 0) ≡ false
  pub decl : declared x h.decl.code ≡ Some h.decl
  pub attributes : AreAttributes x h.decl.attributes h.attributes

-- a null: the code 0, in any spelling
abbrev pub IsNull : List ℕ → Type 0
IsNull bytes = Uleb bytes 0
