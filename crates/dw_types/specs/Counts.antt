-- Chapter: the count of a dimension (DWARF 5, 5.13).
use Rattle.std.specs.Prelude.{ℕ, ◌^◌, ◌-◌, ℤ, pos, negsuc, ◌+ℤ◌, ◌-ℤ◌, Bool, false, ◌&&◌, ◌||◌, not, List, [], ◌∷◌}
use Rattle.std.specs.Prelude.{Option, Some, None, if◌then◌else◌, nat_eq}
use Rattle.dw_entries.specs.Entries.{Entry, DebugUnit}
use Rattle.dw_links.specs.declared.constant.Constant.{Constant}
use Rattle.dw_links.specs.declared.constant.Constant.TheVariants.{Absent, NotNumber, Unsigned, Signed}
use Rattle.dw_forms.specs.Codes.{DW_AT_count, DW_AT_lower_bound, DW_AT_upper_bound}
use Rattle.dw_forms.specs.Codes.{DW_LANG_C89, DW_LANG_C, DW_LANG_C_plus_plus}
use Rattle.dw_forms.specs.Codes.{DW_LANG_C99, DW_LANG_C_plus_plus_11, DW_LANG_Rust, DW_LANG_C11, DW_LANG_C_plus_plus_14}
use Rattle.dw_links.specs.Constants.{constant_at, is_present, natural, natural_of, number_of_constant}
use Rattle.dw_types.specs.Entries.{entry_in, language}
use Rattle.dw_types.specs.Kinds.{is_array, is_subrange, parent_is}
use Rattle.dw_links.specs.Classes.{is_one_of}
use Rattle.dw_types.specs.SizeTables.{Size}

-- a subrange that is a child of an array
abbrev pub is_dimension : List DebugUnit → ℕ → Bool
is_dimension us node = is_subrange (entry_in us node) && parent_is is_array us node

-- the languages whose bounds are read: their default lower bound is 0 (DWARF 5, 7.12)
abbrev pub counted_languages : List ℕ
counted_languages =
    DW_LANG_C89 ∷ DW_LANG_C ∷ DW_LANG_C_plus_plus ∷ DW_LANG_C99 ∷ DW_LANG_C_plus_plus_11 ∷ DW_LANG_Rust ∷ DW_LANG_C11
    ∷ DW_LANG_C_plus_plus_14 ∷ []

-- the number is one of these languages
abbrev pub is_counted_language : Option ℕ → Bool
is_counted_language None = false
is_counted_language (Some language) = is_one_of counted_languages language

-- bounds are read if the unit names no language, or one of those
abbrev pub reads_bounds : Constant → Bool
reads_bounds language = not (is_present language) || is_counted_language (natural_of language)

-- the lower bound, 0 if it is absent
abbrev pub lower_of : Constant → Option ℤ
lower_of Absent = Some (pos 0)
lower_of NotNumber = None
lower_of (Unsigned n) = Some (pos n)
lower_of (Signed n) = Some n

-- the upper bound; the greatest number of 64 bits is read as -1
abbrev pub upper_of : Constant → Option ℤ
upper_of Absent = None
upper_of NotNumber = None
upper_of (Unsigned n) = Some (if nat_eq n (2 ^ 64 - 1) then negsuc 0 else pos n)
upper_of (Signed n) = Some n

-- upper - lower + 1, if both are known
abbrev pub count_between : Option ℤ → Option ℤ → Option ℤ
count_between None lower = None
count_between (Some upper) None = None
count_between (Some upper) (Some lower) = Some ((upper -ℤ lower) +ℤ pos 1)

-- the count that a count attribute gives, or else two bounds in a unit of a language; none if it is unknown
abbrev pub count_from : (count language upper lower : Constant) → Option ℤ
count_from count language upper lower =
    if is_present count then number_of_constant count
    else if reads_bounds language then count_between (upper_of upper) (lower_of lower)
    else None

-- the count of a dimension in a unit of a language, none if it is unknown
abbrev pub count_read : Entry → Constant → Option ℤ
count_read entry language =
    count_from (constant_at entry DW_AT_count) language (constant_at entry DW_AT_upper_bound)
    (constant_at entry DW_AT_lower_bound)

-- the count of a dimension, by its number
abbrev pub count_of : List DebugUnit → ℕ → Option ℤ
count_of us node = count_read (entry_in us node) (language us node)

-- a known count of 0 or more
abbrev pub known_natural : Option ℤ → Size
known_natural None = None
known_natural (Some n) = natural n

-- the known count of a dimension, and none for any other entry
abbrev pub count_at : List DebugUnit → ℕ → Option ℕ
count_at us node = if is_dimension us node then known_natural (count_of us node) else None
