-- Chapter: the names of functions, and the directory of a unit's compilation (DWARF 5, 2.15, 2.22, 3.1.1 and 3.3.8).
use Rattle.std.specs.Prelude.{ℕ, zero, suc, List, Option, None, option_and_then}
use Rattle.std.specs.Option.{option_or}
use Rattle.dw_forms.specs.Codes.{DW_AT_abstract_origin, DW_AT_name, DW_AT_specification}
use Rattle.dw_entries.specs.declared.entries.Entries.{Entries}
use Rattle.dw_entries.specs.ByNumber.{entry_of}
use Rattle.dw_entries.specs.Views.{all_entries, all_units, sections_of}
use Rattle.dw_links.specs.AttributeTexts.{text_at}
use Rattle.dw_links.specs.Targets.{target_of}
use Rattle.dw_ranges.specs.EntryRanges.{head_in}

-- the codes of attributes (7.5.4, Table 7.5)
abbrev pub DW_AT_comp_dir : ℕ
DW_AT_comp_dir = 0x1b

abbrev pub DW_AT_linkage_name : ℕ
DW_AT_linkage_name = 0x6e

-- the text of an attribute of the entry with a number, if there is one
abbrev pub text_in : Entries → (attribute : ℕ) → ℕ → Option (List ℕ)
text_in entries attribute id = text_at (sections_of entries) (all_entries entries) (all_units entries)
    (entry_of (all_entries entries) id) attribute

-- the entry that an attribute of the entry with a number refers to, if it refers to one
abbrev pub target_in : Entries → (attribute : ℕ) → ℕ → Option ℕ
target_in entries attribute id =
    target_of (all_entries entries) (all_units entries) (entry_of (all_entries entries) id) attribute

-- the entry that an entry stands for: its abstract origin, or its specification
abbrev pub origin_of : Entries → ℕ → Option ℕ
origin_of entries id =
    option_or (target_in entries DW_AT_abstract_origin id) (target_in entries DW_AT_specification id)

-- the first text of an attribute of an entry and of those that it stands for, one after another: so many at most
abbrev pub name_above : Entries → (attribute : ℕ) → (most : ℕ) → ℕ → Option (List ℕ)
name_above entries attribute zero id = None
name_above entries attribute (suc most) id = option_or (text_in entries attribute id)
    (option_and_then (name_above entries attribute most) (origin_of entries id))

-- how many entries are looked at for a name (this project's choice: an entry may stand for one that stands for it)
unfoldable pub most_origins : ℕ
most_origins = 64

-- the name of a function: its linkage name, or its own
abbrev pub function_name : Entries → ℕ → Option (List ℕ)
function_name entries id = option_or (name_above entries DW_AT_linkage_name most_origins id)
    (name_above entries DW_AT_name most_origins id)

-- the directory of the compilation that the unit with a number names
abbrev pub compilation_directory : Entries → ℕ → Option (List ℕ)
compilation_directory entries unit = text_in entries DW_AT_comp_dir (head_in entries unit).first
