-- Chapter: the shape of each entry of an image, by its tag, its attributes and its children (DWARF 5, chapter 5).
use Rattle.std.specs.Prelude.{ℕ, Bool, ◌==◌, ◌&&◌, ◌||◌, List, Option, Some, None, unwrap_or, if◌then◌else◌}
use Rattle.std.specs.List.{list_any, filter_map}
use Rattle.dw_forms.specs.Codes.{DW_AT_bit_size, DW_AT_const_value, DW_AT_prototyped, DW_TAG_array_type}
use Rattle.dw_forms.specs.Codes.{DW_TAG_atomic_type, DW_TAG_base_type, DW_TAG_const_type, DW_TAG_enumeration_type}
use Rattle.dw_forms.specs.Codes.{DW_TAG_enumerator, DW_TAG_formal_parameter, DW_TAG_inheritance, DW_TAG_pointer_type}
use Rattle.dw_forms.specs.Codes.{DW_TAG_restrict_type, DW_TAG_structure_type, DW_TAG_subroutine_type, DW_TAG_typedef}
use Rattle.dw_forms.specs.Codes.{DW_TAG_union_type, DW_TAG_unspecified_parameters, DW_TAG_variable}
use Rattle.dw_forms.specs.Codes.{DW_TAG_variant_part, DW_TAG_volatile_type, is_type_tag}
use Rattle.dw_entries.specs.Entries.{Entry}
use Rattle.dw_image.specs.Constants.{constant_at, is_present, natural_of, number_of_constant}
use Rattle.dw_image.specs.References.{is_declared}
use Rattle.dw_types.specs.Counts.{count_at}
use Rattle.dw_types.specs.Kinds.{is_subrange}
use Rattle.dw_types.specs.Shapes.{is_defined_member}
use Rattle.dw_types.specs.Sizes.{has_stride, is_other_index}
use Rattle.dw_image.specs.declared.image.Image.{Image}
use Rattle.dw_image.specs.Images.{units_in}
use Rattle.dw_cprint.specs.LookUps.{entry_by, tag_at, name_at, type_at, children_at, flag_at}
use Rattle.dw_cprint.specs.Shapes.{Const, Volatile, Restrict, Atomic, TagKeyword, OfAggregate, Struct, Union, Enum}
use Rattle.dw_cprint.specs.Shapes.{Parameter, Typed, More, Name, MemberOf, EnumeratorOf, BodyOf, aggregate, enumeration}
use Rattle.dw_cprint.specs.Shapes.{ShapeOf, base, typedef, qualified, pointer, array, function, tagged, nameless, body}
use Rattle.dw_cprint.specs.Shapes.{foreign, other, SubjectOf, typedef_subject, variable_subject, defined_subject}
use Rattle.dw_cprint.specs.Shapes.{declared_subject, other_subject}

-- no body of C has the child: it is an inheritance or a variant part
abbrev pub is_odd_child : Image → ℕ → Bool
is_odd_child image id = tag_at image id == DW_TAG_inheritance || tag_at image id == DW_TAG_variant_part

-- a child is one that no body of C has
abbrev pub is_odd : Image → ℕ → Bool
is_odd image id = list_any (is_odd_child image) (children_at image id)

-- ---- arrays (DWARF 5, 5.5)

-- the known count of a child that is a dimension, or that it is unknown
abbrev pub dimension_at : Image → ℕ → Option (Option ℕ)
dimension_at image id = if is_subrange (entry_by image id) then Some (count_at (units_in image) id) else None

-- the counts of the dimensions
abbrev pub dimension_counts : Image → ℕ → List (Option ℕ)
dimension_counts image id = filter_map (dimension_at image) (children_at image id)

-- the child is an index of another kind, or a dimension with a stride of its own
abbrev pub is_strange_child : Image → ℕ → Bool
is_strange_child image id =
    is_other_index (entry_by image id)
    || (is_subrange (entry_by image id) && has_stride (entry_by image id))

-- a stride, or a child that C has no word for
abbrev pub is_strange : Image → ℕ → Bool
is_strange image id = has_stride (entry_by image id) || list_any (is_strange_child image) (children_at image id)

-- ---- subroutines (DWARF 5, 5.8)

-- a parameter by its type, or unspecified parameters, if a child is one
abbrev pub parameter_at : Image → ℕ → Option Parameter
parameter_at image id =
    if tag_at image id == DW_TAG_formal_parameter then Some (Typed (type_at image id))
    else if tag_at image id == DW_TAG_unspecified_parameters then Some More
    else None

-- the parameters of a subroutine type that is prototyped; none if it is not
abbrev pub parameters_in : Image → ℕ → Option (List Parameter)
parameters_in image id =
    if flag_at image id DW_AT_prototyped then Some (filter_map (parameter_at image) (children_at image id)) else None

-- ---- structures and unions (DWARF 5, 5.7)

-- a size in bits, if there is one; 0 if it is no number of 1 or more
abbrev pub bits_of : Entry → Option ℕ
bits_of entry =
    if is_present (constant_at entry DW_AT_bit_size)
    then Some (unwrap_or (natural_of (constant_at entry DW_AT_bit_size)) 0) else None

-- a child that is a member and not declared: its name, its type and its bit size
abbrev pub member_at : Image → ℕ → Option MemberOf
member_at image id =
    if is_defined_member (entry_by image id)
    then Some (record {
      name = name_at image id;
      type_at = type_at image id;
      bits = bits_of (entry_by image id);
    })
    else None

-- the plain members of a structure or a union, in rising offset
abbrev pub members_in : Image → ℕ → List MemberOf
members_in image id = filter_map (member_at image) (children_at image id)

-- ---- enumerations (DWARF 5, 5.9)

-- a child that is an enumerator: its name, and its value if that is a number
abbrev pub enumerator_at : Image → ℕ → Option EnumeratorOf
enumerator_at image id =
    if tag_at image id == DW_TAG_enumerator
    then Some (record {
      name = name_at image id;
      value = number_of_constant (constant_at (entry_by image id) DW_AT_const_value);
    })
    else None

-- the enumerators of an enumeration, in rising offset
abbrev pub enumerators_in : Image → ℕ → List EnumeratorOf
enumerators_in image id = filter_map (enumerator_at image) (children_at image id)

-- ---- all entries

-- the body of a structure, union or enumeration
abbrev pub body_in : Image → ℕ → TagKeyword → BodyOf
body_in image id (OfAggregate word) = aggregate word (is_odd image id) (members_in image id)
body_in image id Enum = enumeration (is_odd image id) (enumerators_in image id)

-- one that is printed by a name; without a name one that is only declared, or its body
abbrev pub tag_shape : Image → ℕ → TagKeyword → Name → ShapeOf
tag_shape image id word (Some name) = tagged word name
tag_shape image id word None = if is_declared (entry_by image id) then nameless word else body (body_in image id word)

-- an entry that is reached, by its tag
abbrev pub shape_by : Image → ℕ → (tag : ℕ) → ShapeOf
shape_by image id tag =
    if tag == DW_TAG_base_type then base (name_at image id)
    else if tag == DW_TAG_typedef then typedef (name_at image id)
    else if tag == DW_TAG_const_type then qualified Const (type_at image id)
    else if tag == DW_TAG_volatile_type then qualified Volatile (type_at image id)
    else if tag == DW_TAG_restrict_type then qualified Restrict (type_at image id)
    else if tag == DW_TAG_atomic_type then qualified Atomic (type_at image id)
    else if tag == DW_TAG_pointer_type then pointer (type_at image id)
    else if tag == DW_TAG_array_type then array (dimension_counts image id) (is_strange image id) (type_at image id)
    else if tag == DW_TAG_subroutine_type then function (type_at image id) (parameters_in image id)
    else if tag == DW_TAG_structure_type then tag_shape image id (OfAggregate Struct) (name_at image id)
    else if tag == DW_TAG_union_type then tag_shape image id (OfAggregate Union) (name_at image id)
    else if tag == DW_TAG_enumeration_type then tag_shape image id Enum (name_at image id)
    else if is_type_tag tag then foreign
    else other

-- the shape of an entry of an image
unfoldable pub shape_in : Image → ℕ → ShapeOf
shape_in image id = shape_by image id (tag_at image id)

-- the word of a structure, union or enumeration, by the tag
abbrev pub tag_word : (tag : ℕ) → Option TagKeyword
tag_word tag =
    if tag == DW_TAG_structure_type then Some (OfAggregate Struct)
    else if tag == DW_TAG_union_type then Some (OfAggregate Union)
    else if tag == DW_TAG_enumeration_type then Some Enum
    else None

-- a structure, union or enumeration with its body, or only by its name, if that is all that DWARF declares; no word is
-- an entry of another kind
abbrev pub tag_in : Image → ℕ → Option TagKeyword → SubjectOf
tag_in image id None = other_subject
tag_in image id (Some word) =
    if is_declared (entry_by image id) then declared_subject word (name_at image id)
    else defined_subject (name_at image id) (body_in image id word)

-- the entry that is declared, by its tag
abbrev pub subject_by : Image → ℕ → (tag : ℕ) → SubjectOf
subject_by image id tag =
    if tag == DW_TAG_typedef then typedef_subject (name_at image id) (type_at image id)
    else if tag == DW_TAG_variable then variable_subject (name_at image id) (type_at image id)
    else tag_in image id (tag_word tag)

-- the subject that an entry of an image is
unfoldable pub subject_in : Image → ℕ → SubjectOf
subject_in image id = subject_by image id (tag_at image id)
