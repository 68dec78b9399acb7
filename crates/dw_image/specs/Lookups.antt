-- Chapter: what the look-ups of an image return, as functions of the list of its entries.
use Rattle.std.specs.Prelude.{ℕ, Bool, if◌then◌else◌, List, slice_get, Option, Some, None}
use Rattle.std.specs.Option.{option_and_then}
use Rattle.dw_forms.specs.Codes.{is_type_tag}
use Rattle.dw_entries.specs.Entries.{Entry}
-- the number of the entry that begins at an offset of .debug_info
pub use Rattle.dw_links.specs.Targets.{entry_at}

-- whether an entry is a type, by its tag
abbrev pub is_type_entry : Entry → Bool
is_type_entry e = is_type_tag e.head.decl.tag

-- the number itself, if the entry is a type
abbrev pub type_number : List Entry → ℕ → Option ℕ
type_number entries id = option_and_then (λ e. if is_type_entry e then Some id else None) (slice_get entries id)
