-- Chapter: the classes of values, and the classes that an attribute may have (DWARF 5, 7.5.4 and 7.5.5).
use Rattle.std.specs.Prelude.{ℕ, Bool, true, false, not, List, [], ◌∷◌, if◌then◌else◌, nat_eq, Option, Some, None}
use Rattle.std.specs.List.{list_any}
use Rattle.dw_forms.specs.declared.abbrev.AttributeSpec.{AttributeSpec}
use Rattle.dw_forms.specs.Value.{Datum, address, block, unsigned, signed, wide, text, flag, str, line_str, str_index}
use Rattle.dw_forms.specs.Value.{ref_info, ref_unit, ref_sig, sec_offset, expr, addr_index, loc_index, rng_index}
use Rattle.dw_forms.specs.Codes.{DW_AT_sibling, DW_AT_name, DW_AT_byte_size, DW_AT_bit_size, DW_AT_import}
use Rattle.dw_forms.specs.Codes.{DW_AT_lower_bound, DW_AT_prototyped, DW_AT_bit_stride, DW_AT_upper_bound}
use Rattle.dw_forms.specs.Codes.{DW_AT_abstract_origin, DW_AT_count, DW_AT_data_member_location, DW_AT_declaration}
use Rattle.dw_forms.specs.Codes.{DW_AT_encoding, DW_AT_specification, DW_AT_type, DW_AT_byte_stride, DW_AT_signature}
use Rattle.dw_forms.specs.Codes.{DW_AT_data_bit_offset, DW_AT_str_offsets_base, DW_AT_addr_base}
use Rattle.dw_forms.specs.FormTable.{form_class, Class}
use Rattle.dw_forms.specs.declared.class.Class.TheVariants.{Address, Block, Constant, WideConstant, Exprloc, Flag}
use Rattle.dw_forms.specs.declared.class.Class.TheVariants.{ListIndex, Reference, SectionOffset, String}

-- the class of a value
abbrev pub class_of : Datum → Class
class_of (address n) = Address
class_of (block bytes) = Block
class_of (unsigned n) = Constant
class_of (signed n) = Constant
class_of (wide bytes) = WideConstant
class_of (text bytes) = String
class_of (flag b) = Flag
class_of (str offset) = String
class_of (line_str offset) = String
class_of (str_index index) = String
class_of (ref_info offset) = Reference
class_of (ref_unit offset) = Reference
class_of (ref_sig signature) = Reference
class_of (sec_offset offset) = SectionOffset
class_of (expr bytes) = Exprloc
class_of (addr_index index) = Address
class_of (loc_index index) = ListIndex
class_of (rng_index index) = ListIndex

-- the code is one of these
abbrev pub is_one_of : List ℕ → ℕ → Bool
is_one_of codes code = list_any (nat_eq code) codes

-- reference
abbrev pub is_reference : Class → Bool
is_reference Reference = true
is_reference _ = false

-- string
abbrev pub is_string : Class → Bool
is_string String = true
is_string _ = false

-- constant but data16, exprloc, reference
abbrev pub is_size : Class → Bool
is_size Constant = true
is_size Exprloc = true
is_size Reference = true
is_size _ = false

-- constant, exprloc, reference
abbrev pub is_bound : Class → Bool
is_bound Constant = true
is_bound WideConstant = true
is_bound Exprloc = true
is_bound Reference = true
is_bound _ = false

-- constant but data16, exprloc, section offset, list index
abbrev pub is_location : Class → Bool
is_location Constant = true
is_location Exprloc = true
is_location SectionOffset = true
is_location ListIndex = true
is_location _ = false

-- constant, data16 too
abbrev pub is_constant : Class → Bool
is_constant Constant = true
is_constant WideConstant = true
is_constant _ = false

-- flag
abbrev pub is_flag : Class → Bool
is_flag Flag = true
is_flag _ = false

-- section offset
abbrev pub is_section_offset : Class → Bool
is_section_offset SectionOffset = true
is_section_offset _ = false

-- the attribute may have a value of the class
abbrev pub allows : ℕ → Class → Bool
allows attribute class =
    if is_one_of (DW_AT_sibling ∷ DW_AT_import ∷ DW_AT_abstract_origin ∷ DW_AT_specification ∷ DW_AT_type
    ∷ DW_AT_signature ∷ []) attribute then is_reference class
    else (if is_one_of (DW_AT_name ∷ []) attribute then is_string class
    else (if is_one_of (DW_AT_byte_size ∷ DW_AT_bit_size ∷ DW_AT_count ∷ DW_AT_byte_stride ∷ DW_AT_data_bit_offset ∷ [])
    attribute then is_size class
    else (if is_one_of (DW_AT_lower_bound ∷ DW_AT_upper_bound ∷ DW_AT_bit_stride ∷ []) attribute then is_bound class
    else (if is_one_of (DW_AT_data_member_location ∷ []) attribute then is_location class
    else (if is_one_of (DW_AT_encoding ∷ []) attribute then is_constant class
    else (if is_one_of (DW_AT_prototyped ∷ DW_AT_declaration ∷ []) attribute then is_flag class
    else (if is_one_of (DW_AT_str_offsets_base ∷ DW_AT_addr_base ∷ []) attribute then is_section_offset class
    else true)))))))

-- in a version 4 unit two attributes may have any class
abbrev pub allows_in : (version : ℕ) → ℕ → Class → Bool
allows_in version attribute class =
    if nat_eq version 4 then
    (if is_one_of (DW_AT_str_offsets_base ∷ DW_AT_addr_base ∷ []) attribute then true else allows attribute class)
    else allows attribute class

-- values of this class, or of any class if it is not known, may have none of the classes of the attribute
abbrev pub is_open_in : Option Class → ℕ → Bool
is_open_in (Some class) attribute = not (allows attribute class)
is_open_in None attribute = true

-- the attribute is open: by its form, a value may have none of its classes
abbrev pub is_open : AttributeSpec → Bool
is_open spec = is_open_in (form_class spec.form) spec.attribute
