-- State: the attributes of a list as bits, and the attributes that a declaration has so far.
use Rattle.std.specs.Prelude.{◌≡◌, ℕ, suc, ◌+◌, ◌%◌, ◌==◌, if◌then◌else◌, List, [], ◌∷◌}
use Rattle.std.specs.Int.{bit_at}
use Rattle.std.specs.List.{list_any}
use Rattle.dw_forms.specs.declared.abbrev.AttributeSpec.{AttributeSpec}
use Rattle.dw_forms.specs.Codes.{DW_AT_name, DW_AT_byte_size, DW_AT_bit_size, DW_AT_language, DW_AT_const_value}
use Rattle.dw_forms.specs.Codes.{DW_AT_lower_bound, DW_AT_prototyped, DW_AT_bit_stride, DW_AT_upper_bound}
use Rattle.dw_forms.specs.Codes.{DW_AT_abstract_origin, DW_AT_count, DW_AT_data_member_location, DW_AT_declaration}
use Rattle.dw_forms.specs.Codes.{DW_AT_encoding, DW_AT_specification, DW_AT_type, DW_AT_byte_stride, DW_AT_signature}
use Rattle.dw_forms.specs.Codes.{DW_AT_data_bit_offset, DW_AT_str_offsets_base, DW_AT_addr_base, DW_AT_low_pc}
use Rattle.dw_forms.specs.Codes.{DW_AT_high_pc, DW_AT_ranges, DW_AT_decl_file, DW_AT_call_file}
use Rattle.std.specs.Ordering.{nat_cmp}
use Rattle.std.specs.BTreeSet.{BTreeSet, contains}
use Rattle.dw_forms.specs.AbbrevReading.{has_attribute}

-- the attributes that rules and declarations look for
abbrev pub asked : List ℕ
asked =
    DW_AT_name ∷ DW_AT_byte_size ∷ DW_AT_bit_size ∷ DW_AT_language ∷ DW_AT_const_value ∷ DW_AT_lower_bound
    ∷ DW_AT_prototyped ∷ DW_AT_bit_stride ∷ DW_AT_upper_bound ∷ DW_AT_abstract_origin ∷ DW_AT_count
    ∷ DW_AT_data_member_location ∷ DW_AT_declaration ∷ DW_AT_encoding ∷ DW_AT_specification ∷ DW_AT_type
    ∷ DW_AT_byte_stride ∷ DW_AT_signature ∷ DW_AT_data_bit_offset ∷ DW_AT_str_offsets_base ∷ DW_AT_addr_base
    ∷ DW_AT_low_pc ∷ DW_AT_high_pc ∷ DW_AT_ranges ∷ DW_AT_decl_file ∷ DW_AT_call_file ∷ []

-- how many they are
abbrev pub own_bits : ℕ
own_bits = 26

-- the place of a code among these, which have the places from this one on; all others share six places after them
abbrev pub place_from : ℕ → List ℕ → ℕ → ℕ
place_from place [] code = place + code % 6
place_from place (c ∷ codes) code = if code == c then place else place_from (suc place) codes code

-- the place of the bit of the attribute with this code: an attribute that is looked for has a bit of its own
unfoldable pub bit_of : ℕ → ℕ
bit_of code = place_from 0 asked code

-- exactly the bits of these attributes are set
abbrev pub AreBitsOf : List AttributeSpec → ℕ → Type 0
AreBitsOf specs bits =
    (i : ℕ) → (bit_at bits i == 1) ≡ list_any (λ (spec : AttributeSpec). bit_of spec.attribute == i) specs

-- the codes are those of these attributes
abbrev pub AreSeen : List AttributeSpec → BTreeSet ℕ → Type 0
AreSeen specs codes = (a : ℕ) → contains nat_cmp codes a ≡ has_attribute a specs
