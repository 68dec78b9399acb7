-- Chapter: abbreviation tables (DWARF 5, 7.5.3): which bytes spell which declarations, and which fault is where none
-- is.
use Rattle.std.proofs.Common.{ap, ◌≡◌, ◌≢◌, ℕ, ◌+◌, ◌<◌, ◌≤◌, ◌-◌, Bool, true, false, List, [], ◌++◌, length, drop, map}
use Rattle.std.proofs.Common.{ℤ, All, AllPairs, Option, Some, None, not, nat_lt, ◌==◌, ◌&&◌, ◌||◌, if◌then◌else◌}
use Rattle.dw_forms.specs.declared.form.Form.TheVariants.{ImplicitConst}
use Rattle.dw_forms.specs.declared.abbrev.AttributeSpec.{AttributeSpec}
pub use Rattle.dw_forms.specs.declared.abbrev.Decl.{Decl}
use Rattle.dw_forms.specs.declared.rule.Rule.{Rule}
use Rattle.dw_forms.specs.declared.rule.Rule.TheVariants.{AbbrevCut, CodeTwice, BadTag, BadChildren, BadPair}
use Rattle.dw_forms.specs.declared.rule.Rule.TheVariants.{UnknownForm, AttributeTwice}
use Rattle.dw_forms.specs.Faults.{decl_fault_of, fault_at, DeclFault, AbbrevFault}
use Rattle.dw_forms.specs.Elements.{Elements, SpellsElement, SpellsEnd, NextFails}
use Rattle.dw_forms.specs.FormCodes.{form_of, Form}
use Rattle.dw_forms.specs.Formats.{Format, and_then, nothing, failing, mapped, choose, found, tested, renamed}
use Rattle.dw_forms.specs.Formats.{then_some}
use Rattle.dw_forms.specs.BaseFormats.{uleb, sleb, byte}
use Rattle.dw_forms.specs.Keys.{Apart}
use Rattle.dw_forms.specs.LebLaws.{uleb_some}
use Rattle.dw_forms.specs.ListFormats.{SpellsEach, SpellsList, up_to_end, list_format, reads_renamed}

-- a declaration without where it lies in memory
pub record Declaration : Type 0 where
  pub code : ℕ
  pub tag : ℕ
  pub has_children : Bool
  pub attributes : List AttributeSpec

-- the declaration, as it is seen
abbrev pub table_view : Decl → Declaration
table_view d = record { code = d.code; tag = d.tag; has_children = d.has_children; attributes = d.attributes.items }

-- the declarations, as they are seen
abbrev pub views : List Decl → List Declaration
views ds = map table_view ds

-- the rule is broken at this attribute, or at none: 0
abbrev pub broken : Rule → ℕ → DeclFault
broken rule attribute = record { rule = rule; attribute = attribute }

-- ---- numbers

-- an unsigned number
abbrev pub number : Format ℕ DeclFault
number = renamed (λ bytes. decl_fault_of) uleb

-- a signed number
abbrev pub signed_number : Format ℤ DeclFault
signed_number = renamed (λ bytes. decl_fault_of) sleb

-- whether this is the code of a tag or an attribute
abbrev pub is_code16 : ℕ → Bool
is_code16 n = not (n == 0 || nat_lt 0xffff n)

-- ---- attributes

-- the code of an attribute and that of its form; or the pair 0, 0
unfoldable pub pair : Format (Option (ℕ × Form)) DeclFault
pair = and_then number (λ attribute. and_then number (λ code.
    choose (attribute == 0 && code == 0) (nothing None) (
    choose (attribute == 0 || code == 0 || nat_lt 0xffff attribute) (failing (broken BadPair 0)) (
    found (form_of code) (failing (broken UnknownForm attribute)) (λ form. nothing (Some (attribute, form)))))))

-- after the form implicit_const comes its number, and after any other form nothing
abbrev pub constant : Form → Format Form DeclFault
constant (ImplicitConst n) = mapped ImplicitConst signed_number
constant form = nothing form

-- the rest of an attribute after the pair
abbrev pub specification : ℕ × Form → Format AttributeSpec DeclFault
specification p = mapped (λ form. record { attribute = p.0; form = form }) (constant p.1)

-- the key of an attribute
abbrev pub attribute_of : AttributeSpec → ℕ
attribute_of s = s.attribute

pub specification_named : (p : ℕ × Form) (text : List ℕ) (s : AttributeSpec) → (specification p).Spells text s
    → s.attribute ≡ p.0
specification_named p text s h = ap attribute_of h.2

pub pair_some : (text : List ℕ) (p : ℕ × Form) → pair.Spells text (Some p) → 0 < length text
unfolding pair
pair_some text p h = then_some uleb_some text (Some p) h

-- attributes, none of them twice, up to the pair 0, 0
abbrev pub specifications : Elements (ℕ × Form) AttributeSpec DeclFault
specifications = record {
  head = pair;
  rest = specification;
  key = attribute_of;
  name = λ p. p.0;
  twice = λ p. broken AttributeTwice p.0;
  named = specification_named;
  some = pair_some;
}

-- all attributes of a declaration
abbrev pub attributes : Format (List AttributeSpec) DeclFault
attributes = up_to_end specifications (broken AbbrevCut 0)

-- ---- declarations

-- the byte that says whether there are children
abbrev pub children : Format Bool DeclFault
children = and_then (byte (broken AbbrevCut 0)) (λ b.
    choose (b == 0) (nothing false) (choose (b == 1) (nothing true) (failing (broken BadChildren 0))))

-- a tag, and whether there are children
unfoldable pub tag_and_children : Format (ℕ × Bool) DeclFault
tag_and_children = and_then (tested is_code16 (broken BadTag 0) number) (λ tag. mapped (λ b. (tag, b)) children)

-- the code of a declaration, or 0
unfoldable pub code_or_end : Format (Option ℕ) DeclFault
code_or_end = mapped (λ code. if code == 0 then None else Some code) number

-- a declaration after its code
abbrev pub declaration : ℕ → Format Declaration DeclFault
declaration code = and_then tag_and_children (λ t. mapped (λ specs. record {
  code = code;
  tag = t.0;
  has_children = t.1;
  attributes = specs;
}) attributes)

-- the key of a declaration
abbrev pub code_of_decl : Declaration → ℕ
code_of_decl d = d.code

pub declaration_named : (code : ℕ) (text : List ℕ) (d : Declaration) → (declaration code).Spells text d → d.code ≡ code
declaration_named code text d h = ap code_of_decl h.is_second.2

pub code_some : (text : List ℕ) (code : ℕ) → code_or_end.Spells text (Some code) → 0 < length text
unfolding code_or_end
code_some text code h = uleb_some text h.0 h.1

-- declarations, no code of them twice, up to the code 0
abbrev pub declarations : Elements ℕ Declaration DeclFault
declarations = record {
  head = code_or_end;
  rest = declaration;
  key = code_of_decl;
  name = λ code. code;
  twice = λ code. broken CodeTwice 0;
  named = declaration_named;
  some = code_some;
}

-- all declarations of a table at the end of a section of this length. The place of a fault is the first byte of the
-- declaration
abbrev pub table : ℕ → Format (List Declaration) AbbrevFault
table len = list_format (reads_renamed declarations (λ bytes. fault_at (len - length bytes))
    (fault_at len (broken AbbrevCut 0)))

-- the bytes are the table of these declarations
abbrev pub Decls : List ℕ → List Declaration → Type 0
Decls = SpellsList code_of_decl (SpellsElement declarations) (SpellsEnd declarations)

-- a beginning of the table spells some declarations, and nothing after it spells a next one or the end.
-- The place is where that next one begins
pub record TableFails (section : List ℕ) (offset : ℕ) (fault : AbbrevFault) : Type 0 where
  pub ds : List Declaration
  pub text : List ℕ
  pub rest : List ℕ
  pub parts : drop offset section ≡ text ++ rest
  pub spelled : SpellsEach (SpellsElement declarations) (λ bytes. bytes ≡ []) ds text
  pub distinct : Apart code_of_decl ds
  pub reason : DeclFault
  pub fails : NextFails declarations ds rest reason
  pub is : fault ≡ fault_at (offset + length text) reason

-- ---- what may be declared

-- the code of a tag or an attribute
pub record IsCode16 (n : ℕ) : Type 0 where
  pub some : 0 < n
  pub small : n ≤ 0xffff

-- elements that one list may have, no key of them twice
pub record AreDistinct {X : Type 0} (Good : X → Type 0) (key : X → ℕ) (xs : List X) : Type 0 where
  pub each : All Good xs
  pub distinct : AllPairs (λ x y. key x ≢ key y) xs

-- attributes that one declaration may have
abbrev pub AreAttributeSpecs : List AttributeSpec → Type 0
AreAttributeSpecs = AreDistinct (λ s. IsCode16 s.attribute) (λ s. s.attribute)

-- a declaration that a table may have; the code 0 ends the table
pub record IsDeclaration (d : Declaration) : Type 0 where
  pub code : 0 < d.code
  pub tag : IsCode16 d.tag
  pub attributes : AreAttributeSpecs d.attributes

-- declarations that one table may have
abbrev pub AreDeclarations : List Declaration → Type 0
AreDeclarations = AreDistinct IsDeclaration (λ d. d.code)
