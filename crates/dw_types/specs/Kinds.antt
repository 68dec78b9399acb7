-- Chapter: the kinds of entries that the rules on types, counts and sizes distinguish (DWARF 5, chapter 5).
use Rattle.std.specs.Prelude.{ℕ, Bool, false, ◌&&◌, not, List, [], ◌∷◌, if◌then◌else◌, nat_eq}
use Rattle.std.specs.List.{count_by}
use Rattle.std.specs.Option.{option_map_or}
use Rattle.dw_types.specs.declared.kind.Kind.{Kind}
use Rattle.dw_types.specs.declared.kind.Kind.TheVariants.{Declared, OwnSized, Pointer, Alias, Enumeration, Array}
use Rattle.dw_types.specs.declared.kind.Kind.TheVariants.{Subroutine, NoType}
use Rattle.dw_forms.specs.Codes.{DW_TAG_array_type, DW_TAG_class_type, DW_TAG_enumeration_type, DW_TAG_pointer_type}
use Rattle.dw_forms.specs.Codes.{DW_TAG_reference_type, DW_TAG_string_type, DW_TAG_structure_type}
use Rattle.dw_forms.specs.Codes.{DW_TAG_subroutine_type, DW_TAG_typedef, DW_TAG_union_type, DW_TAG_ptr_to_member_type}
use Rattle.dw_forms.specs.Codes.{DW_TAG_set_type, DW_TAG_subrange_type, DW_TAG_base_type, DW_TAG_const_type}
use Rattle.dw_forms.specs.Codes.{DW_TAG_file_type, DW_TAG_packed_type, DW_TAG_volatile_type, DW_TAG_restrict_type}
use Rattle.dw_forms.specs.Codes.{DW_TAG_interface_type, DW_TAG_unspecified_type, DW_TAG_shared_type}
use Rattle.dw_forms.specs.Codes.{DW_TAG_rvalue_reference_type, DW_TAG_template_alias, DW_TAG_coarray_type}
use Rattle.dw_forms.specs.Codes.{DW_TAG_dynamic_type, DW_TAG_atomic_type, DW_TAG_immutable_type}
use Rattle.dw_forms.specs.Codes.{is_type_tag}
use Rattle.dw_links.specs.Classes.{is_one_of}
use Rattle.dw_links.specs.References.{is_declared}
use Rattle.dw_entries.specs.Entries.{Entry, DebugUnit}
use Rattle.dw_types.specs.Entries.{entry_in}

-- typedefs, const, volatile, restrict and atomic types: they have the size of their type
abbrev pub alias_tags : List ℕ
alias_tags = DW_TAG_typedef ∷ DW_TAG_const_type ∷ DW_TAG_volatile_type ∷ DW_TAG_restrict_type ∷ DW_TAG_atomic_type ∷ []

-- the types that contain their type: typedefs, const, volatile, restrict and atomic types, arrays and enumerations
abbrev pub passing_tags : List ℕ
passing_tags =
    DW_TAG_typedef ∷ DW_TAG_const_type ∷ DW_TAG_volatile_type ∷ DW_TAG_restrict_type ∷ DW_TAG_atomic_type
    ∷ DW_TAG_array_type ∷ DW_TAG_enumeration_type ∷ []

-- structures and unions
abbrev pub container_tags : List ℕ
container_tags = DW_TAG_structure_type ∷ DW_TAG_union_type ∷ []

-- the types that a unit may only declare
abbrev pub declarable_tags : List ℕ
declarable_tags = DW_TAG_structure_type ∷ DW_TAG_union_type ∷ DW_TAG_enumeration_type ∷ []

-- base types, structures, unions, unspecified types, and the types of other languages: they have their own byte size
abbrev pub own_sized_tags : List ℕ
own_sized_tags =
    DW_TAG_base_type ∷ DW_TAG_structure_type ∷ DW_TAG_union_type ∷ DW_TAG_unspecified_type ∷
    DW_TAG_class_type ∷ DW_TAG_reference_type ∷ DW_TAG_string_type ∷ DW_TAG_ptr_to_member_type ∷ DW_TAG_set_type ∷
    DW_TAG_subrange_type ∷ DW_TAG_file_type ∷ DW_TAG_packed_type ∷ DW_TAG_interface_type ∷ DW_TAG_shared_type ∷
    DW_TAG_rvalue_reference_type ∷ DW_TAG_template_alias ∷ DW_TAG_coarray_type ∷ DW_TAG_dynamic_type ∷
    DW_TAG_immutable_type ∷ []

-- a typedef, const, volatile, restrict, atomic, array or enumeration
abbrev pub passes_type_on : Entry → Bool
passes_type_on entry = is_one_of passing_tags entry.head.decl.tag

-- a structure or union that is not declared
abbrev pub has_members : Entry → Bool
has_members entry = is_one_of container_tags entry.head.decl.tag && not (is_declared entry)

-- a declared structure, union or enumeration
abbrev pub is_declared_type : Entry → Bool
is_declared_type entry = is_one_of declarable_tags entry.head.decl.tag && is_declared entry

-- a subrange
abbrev pub is_subrange : Entry → Bool
is_subrange entry = nat_eq entry.head.decl.tag DW_TAG_subrange_type

-- an array
abbrev pub is_array : Entry → Bool
is_array entry = nat_eq entry.head.decl.tag DW_TAG_array_type

-- an enumeration that is not declared
abbrev pub is_enumeration : Entry → Bool
is_enumeration entry = nat_eq entry.head.decl.tag DW_TAG_enumeration_type && not (is_declared entry)

-- the kinds that the size table distinguishes, by the tag and by whether DW_AT_declaration is true
abbrev pub kind_by : (tag : ℕ) → (declared : Bool) → Kind
kind_by tag declared =
    if is_one_of declarable_tags tag && declared then Declared
    else if nat_eq tag DW_TAG_pointer_type then Pointer
    else if is_one_of alias_tags tag then Alias
    else if nat_eq tag DW_TAG_enumeration_type then Enumeration
    else if nat_eq tag DW_TAG_array_type then Array
    else if nat_eq tag DW_TAG_subroutine_type then Subroutine
    else if is_one_of own_sized_tags tag then OwnSized
    else NoType

-- the kind of an entry
abbrev pub kind_of : Entry → Kind
kind_of entry = kind_by entry.head.decl.tag (is_declared entry)

-- how many of these entries are types
abbrev pub count_of_types : List Entry → ℕ
count_of_types entries = count_by (λ (entry : Entry). is_type_tag entry.head.decl.tag) entries

-- the parent of an entry, if it has one, passes a test
abbrev pub parent_is : (Entry → Bool) → List DebugUnit → ℕ → Bool
parent_is test us node = option_map_or (λ parent. test (entry_in us parent)) (entry_in us node).parent false
