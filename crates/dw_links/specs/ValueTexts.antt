-- Chapter: the text or the address of a value (DWARF 5, 7.26 and 7.27).
use Rattle.std.specs.Prelude.{ℕ, suc, ◌-◌, List, length, Option, None, Some, option_map}
pub use Rattle.dw_elf.specs.declared.sections.Sections.{Sections}
use Rattle.dw_forms.specs.Value.{Datum, address, text, str, line_str, str_index, addr_index}
use Rattle.dw_entries.specs.declared.header.UnitHeader.{UnitHeader}
pub use Rattle.dw_links.specs.declared.texts.TextPlace.{TextPlace}
use Rattle.dw_links.specs.declared.texts.TextPlace.TheVariants.{Info, Str, LineStr}
pub use Rattle.dw_links.specs.declared.texts.StringValue.{StringValue}
use Rattle.dw_links.specs.declared.texts.StringValue.TheVariants.{Own, Shared}
use Rattle.dw_links.specs.Contributions.{slot_at, string_at}

-- the text of a value of class string, in a unit that has this base; the slot of an index has the text's offset
abbrev pub text_of_value : Sections → (base : Option ℕ) → Datum → Option (List ℕ)
text_of_value sections base (text bytes) = Some bytes
text_of_value sections base (str offset) = Some (string_at sections.str.now offset)
text_of_value sections base (line_str offset) = Some (string_at sections.line_str.now offset)
text_of_value sections base (str_index index) =
    option_map (λ (b : ℕ). string_at sections.str.now (slot_at sections.str_offsets.now 4 b index)) base
text_of_value sections base _ = None

-- where the text of a value of class string is, in a unit that has this base: at the offset that the value or its slot
-- gives; or it is in .debug_info, where the bytes of the value end at this offset, the last of them its zero byte
abbrev pub text_place_of : Sections → (base : Option ℕ) → Datum → (end : ℕ) → Option TextPlace
text_place_of sections base (text bytes) end = Some (Info (end - suc (length bytes)))
text_place_of sections base (str offset) end = Some (Str offset)
text_place_of sections base (line_str offset) end = Some (LineStr offset)
text_place_of sections base (str_index index) end =
    option_map (λ (b : ℕ). Str (slot_at sections.str_offsets.now 4 b index)) base
text_place_of sections base _ end = None

-- the text at a place
abbrev pub text_there : Sections → TextPlace → List ℕ
text_there sections (Info offset) = string_at sections.info.now offset
text_there sections (Str offset) = string_at sections.str.now offset
text_there sections (LineStr offset) = string_at sections.line_str.now offset

-- the text of a value of class string, in itself or at a place
abbrev pub text_of_string : Sections → StringValue → List ℕ
text_of_string sections (Own bytes) = bytes.now
text_of_string sections (Shared place) = text_there sections place

-- the address of a value of class address; that of an index is the number in its slot
abbrev pub address_of : Sections → UnitHeader → (base : Option ℕ) → Datum → Option ℕ
address_of sections header base (address n) = Some n
address_of sections header base (addr_index index) =
    option_map (λ (b : ℕ). slot_at sections.addr.now header.address_size b index) base
address_of sections header base _ = None
