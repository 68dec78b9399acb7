-- Chapter: an abbreviation table read from left to right, or the first fault.
use Rattle.std.specs.Prelude.{ℕ, List, length, drop, Option, Bool, Result, Ok, ◌==◌, ◌-◌}
use Rattle.std.specs.List.{list_any}
use Rattle.dw_forms.specs.Steps.{◌>>=◌}
use Rattle.dw_forms.specs.declared.form.Form.{Form}
pub use Rattle.dw_forms.specs.declared.abbrev.AttributeSpec.{AttributeSpec}
pub use Rattle.dw_forms.specs.declared.fault.DeclFault.{DeclFault}
use Rattle.dw_forms.specs.Abbrev.{Declaration, number, pair, constant, specifications, attributes}
use Rattle.dw_forms.specs.Abbrev.{children, tag_and_children, declarations, table}
use Rattle.dw_forms.specs.Elements.{next_at}
use Rattle.dw_forms.specs.Formats.{as_other}
use Rattle.dw_forms.specs.Faults.{fault_at, AbbrevFault}

-- an unsigned number, and the bytes after it; so for all below
abbrev pub unsigned_at : List ℕ → Result (ℕ × List ℕ) DeclFault
unsigned_at = number.read

-- after form implicit_const its number is in the table
abbrev pub form_at : Form → List ℕ → Result (Form × List ℕ) DeclFault
form_at form = (constant form).read

-- whether one of these has the attribute
abbrev pub has_attribute : ℕ → List AttributeSpec → Bool
has_attribute attribute specs = list_any (λ spec. spec.attribute == attribute) specs

-- the next attribute and its form, before the number of a constant, or none at the pair 0, 0
abbrev pub begun_at : List ℕ → Result (Option (ℕ × Form) × List ℕ) DeclFault
begun_at = pair.read

-- the next pair after the earlier ones of its declaration, or none at the pair 0, 0
abbrev pub pair_at : List AttributeSpec → List ℕ → Result (Option AttributeSpec × List ℕ) DeclFault
pair_at = next_at specifications

-- all pairs of a declaration, up to the pair 0, 0
abbrev pub attributes_of : List ℕ → Result (List AttributeSpec × List ℕ) DeclFault
attributes_of = attributes.read

-- the byte that says whether there are children
abbrev pub children_byte_at : List ℕ → Result (Bool × List ℕ) DeclFault
children_byte_at = children.read

-- a tag, and the byte that says whether there are children
abbrev pub tagged_at : List ℕ → Result ((ℕ × Bool) × List ℕ) DeclFault
tagged_at = tag_and_children.read

-- whether one of these has the code
abbrev pub has_code : ℕ → List Declaration → Bool
has_code code decls = list_any (λ d. d.code == code) decls

-- the next declaration after the earlier ones of its table, or none at the code 0
abbrev pub decl_at : List Declaration → List ℕ → Result (Option Declaration × List ℕ) DeclFault
decl_at = next_at declarations

-- the next declaration, or a fault at its place, in the end of a section of this length
abbrev pub placed_decl_at : ℕ → List Declaration → List ℕ → Result (Option Declaration × List ℕ) AbbrevFault
placed_decl_at len earlier bytes = as_other (fault_at (len - length bytes)) (decl_at earlier bytes)

-- all declarations up to the code 0, at the front of the end of a section of this length
abbrev pub decls_at : ℕ → List ℕ → Result (List Declaration × List ℕ) AbbrevFault
decls_at len = (table len).read

-- the table that begins at an offset of the section
abbrev pub table_at : List ℕ → ℕ → Result (List Declaration) AbbrevFault
table_at section offset = decls_at (length section) (drop offset section) >>= λ x. Ok x.0
