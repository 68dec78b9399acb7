-- Chapter: tags, attributes and languages by the standard's names (DWARF 5, 7.5.3, 7.5.4 and 7.12).
-- All of it but its comments is made by docs/make-rules.py from docs/codes.tsv.
use Rattle.std.specs.Prelude.{ℕ, Bool, ◌==◌, ◌||◌}

-- ---- tags (table 7.3)

abbrev pub DW_TAG_array_type : ℕ
DW_TAG_array_type = 0x01

abbrev pub DW_TAG_class_type : ℕ
DW_TAG_class_type = 0x02

abbrev pub DW_TAG_enumeration_type : ℕ
DW_TAG_enumeration_type = 0x04

abbrev pub DW_TAG_formal_parameter : ℕ
DW_TAG_formal_parameter = 0x05

abbrev pub DW_TAG_member : ℕ
DW_TAG_member = 0x0d

abbrev pub DW_TAG_pointer_type : ℕ
DW_TAG_pointer_type = 0x0f

abbrev pub DW_TAG_reference_type : ℕ
DW_TAG_reference_type = 0x10

abbrev pub DW_TAG_compile_unit : ℕ
DW_TAG_compile_unit = 0x11

abbrev pub DW_TAG_string_type : ℕ
DW_TAG_string_type = 0x12

abbrev pub DW_TAG_structure_type : ℕ
DW_TAG_structure_type = 0x13

abbrev pub DW_TAG_subroutine_type : ℕ
DW_TAG_subroutine_type = 0x15

abbrev pub DW_TAG_typedef : ℕ
DW_TAG_typedef = 0x16

abbrev pub DW_TAG_union_type : ℕ
DW_TAG_union_type = 0x17

abbrev pub DW_TAG_unspecified_parameters : ℕ
DW_TAG_unspecified_parameters = 0x18

abbrev pub DW_TAG_inheritance : ℕ
DW_TAG_inheritance = 0x1c

abbrev pub DW_TAG_ptr_to_member_type : ℕ
DW_TAG_ptr_to_member_type = 0x1f

abbrev pub DW_TAG_set_type : ℕ
DW_TAG_set_type = 0x20

abbrev pub DW_TAG_subrange_type : ℕ
DW_TAG_subrange_type = 0x21

abbrev pub DW_TAG_base_type : ℕ
DW_TAG_base_type = 0x24

abbrev pub DW_TAG_const_type : ℕ
DW_TAG_const_type = 0x26

abbrev pub DW_TAG_enumerator : ℕ
DW_TAG_enumerator = 0x28

abbrev pub DW_TAG_file_type : ℕ
DW_TAG_file_type = 0x29

abbrev pub DW_TAG_packed_type : ℕ
DW_TAG_packed_type = 0x2d

abbrev pub DW_TAG_variant_part : ℕ
DW_TAG_variant_part = 0x33

abbrev pub DW_TAG_variable : ℕ
DW_TAG_variable = 0x34

abbrev pub DW_TAG_volatile_type : ℕ
DW_TAG_volatile_type = 0x35

abbrev pub DW_TAG_restrict_type : ℕ
DW_TAG_restrict_type = 0x37

abbrev pub DW_TAG_interface_type : ℕ
DW_TAG_interface_type = 0x38

abbrev pub DW_TAG_unspecified_type : ℕ
DW_TAG_unspecified_type = 0x3b

abbrev pub DW_TAG_partial_unit : ℕ
DW_TAG_partial_unit = 0x3c

abbrev pub DW_TAG_imported_unit : ℕ
DW_TAG_imported_unit = 0x3d

abbrev pub DW_TAG_shared_type : ℕ
DW_TAG_shared_type = 0x40

abbrev pub DW_TAG_type_unit : ℕ
DW_TAG_type_unit = 0x41

abbrev pub DW_TAG_rvalue_reference_type : ℕ
DW_TAG_rvalue_reference_type = 0x42

abbrev pub DW_TAG_template_alias : ℕ
DW_TAG_template_alias = 0x43

abbrev pub DW_TAG_coarray_type : ℕ
DW_TAG_coarray_type = 0x44

abbrev pub DW_TAG_generic_subrange : ℕ
DW_TAG_generic_subrange = 0x45

abbrev pub DW_TAG_dynamic_type : ℕ
DW_TAG_dynamic_type = 0x46

abbrev pub DW_TAG_atomic_type : ℕ
DW_TAG_atomic_type = 0x47

abbrev pub DW_TAG_immutable_type : ℕ
DW_TAG_immutable_type = 0x4b

-- whether entries with this tag are types: those of C, and the foreign ones (this project's choice)
abbrev pub is_type_tag : ℕ → Bool
is_type_tag tag =
    tag == DW_TAG_array_type ||
    tag == DW_TAG_class_type ||
    tag == DW_TAG_enumeration_type ||
    tag == DW_TAG_pointer_type ||
    tag == DW_TAG_reference_type ||
    tag == DW_TAG_string_type ||
    tag == DW_TAG_structure_type ||
    tag == DW_TAG_subroutine_type ||
    tag == DW_TAG_typedef ||
    tag == DW_TAG_union_type ||
    tag == DW_TAG_ptr_to_member_type ||
    tag == DW_TAG_set_type ||
    tag == DW_TAG_subrange_type ||
    tag == DW_TAG_base_type ||
    tag == DW_TAG_const_type ||
    tag == DW_TAG_file_type ||
    tag == DW_TAG_packed_type ||
    tag == DW_TAG_volatile_type ||
    tag == DW_TAG_restrict_type ||
    tag == DW_TAG_interface_type ||
    tag == DW_TAG_unspecified_type ||
    tag == DW_TAG_shared_type ||
    tag == DW_TAG_rvalue_reference_type ||
    tag == DW_TAG_template_alias ||
    tag == DW_TAG_coarray_type ||
    tag == DW_TAG_dynamic_type ||
    tag == DW_TAG_atomic_type ||
    tag == DW_TAG_immutable_type

-- ---- attributes (table 7.5)

abbrev pub DW_AT_sibling : ℕ
DW_AT_sibling = 0x01

abbrev pub DW_AT_name : ℕ
DW_AT_name = 0x03

abbrev pub DW_AT_byte_size : ℕ
DW_AT_byte_size = 0x0b

abbrev pub DW_AT_bit_size : ℕ
DW_AT_bit_size = 0x0d

abbrev pub DW_AT_low_pc : ℕ
DW_AT_low_pc = 0x11

abbrev pub DW_AT_high_pc : ℕ
DW_AT_high_pc = 0x12

abbrev pub DW_AT_language : ℕ
DW_AT_language = 0x13

abbrev pub DW_AT_import : ℕ
DW_AT_import = 0x18

abbrev pub DW_AT_const_value : ℕ
DW_AT_const_value = 0x1c

abbrev pub DW_AT_lower_bound : ℕ
DW_AT_lower_bound = 0x22

abbrev pub DW_AT_prototyped : ℕ
DW_AT_prototyped = 0x27

abbrev pub DW_AT_bit_stride : ℕ
DW_AT_bit_stride = 0x2e

abbrev pub DW_AT_upper_bound : ℕ
DW_AT_upper_bound = 0x2f

abbrev pub DW_AT_abstract_origin : ℕ
DW_AT_abstract_origin = 0x31

abbrev pub DW_AT_count : ℕ
DW_AT_count = 0x37

abbrev pub DW_AT_data_member_location : ℕ
DW_AT_data_member_location = 0x38

abbrev pub DW_AT_decl_file : ℕ
DW_AT_decl_file = 0x3a

abbrev pub DW_AT_declaration : ℕ
DW_AT_declaration = 0x3c

abbrev pub DW_AT_encoding : ℕ
DW_AT_encoding = 0x3e

abbrev pub DW_AT_specification : ℕ
DW_AT_specification = 0x47

abbrev pub DW_AT_type : ℕ
DW_AT_type = 0x49

abbrev pub DW_AT_byte_stride : ℕ
DW_AT_byte_stride = 0x51

abbrev pub DW_AT_ranges : ℕ
DW_AT_ranges = 0x55

abbrev pub DW_AT_call_file : ℕ
DW_AT_call_file = 0x58

abbrev pub DW_AT_signature : ℕ
DW_AT_signature = 0x69

abbrev pub DW_AT_data_bit_offset : ℕ
DW_AT_data_bit_offset = 0x6b

abbrev pub DW_AT_str_offsets_base : ℕ
DW_AT_str_offsets_base = 0x72

abbrev pub DW_AT_addr_base : ℕ
DW_AT_addr_base = 0x73

-- ---- languages (table 7.17)

abbrev pub DW_LANG_C89 : ℕ
DW_LANG_C89 = 0x01

abbrev pub DW_LANG_C : ℕ
DW_LANG_C = 0x02

abbrev pub DW_LANG_C_plus_plus : ℕ
DW_LANG_C_plus_plus = 0x04

abbrev pub DW_LANG_C99 : ℕ
DW_LANG_C99 = 0x0c

abbrev pub DW_LANG_C_plus_plus_11 : ℕ
DW_LANG_C_plus_plus_11 = 0x1a

abbrev pub DW_LANG_Rust : ℕ
DW_LANG_Rust = 0x1c

abbrev pub DW_LANG_C11 : ℕ
DW_LANG_C11 = 0x1d

abbrev pub DW_LANG_C_plus_plus_14 : ℕ
DW_LANG_C_plus_plus_14 = 0x21
