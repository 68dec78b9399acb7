-- Chapter: the names of functions and the paths of places, by what is known of a sound file.
use Rattle.std.specs.Prelude.{ℕ, nat_lt, List, [], length, Option, None, Some}
use Rattle.std.specs.Prelude.{option_and_then, if◌then◌else◌}
use Rattle.std.specs.Option.{unwrap_or}
use Rattle.dw_entries.specs.Lookups.{nth_of}
use Rattle.dw_entries.specs.Views.{all_entries, units_of}
use Rattle.dw_entries.specs.declared.entries.Entries.{Entries}
use Rattle.dw_addresses.specs.Lines.{path_in}
use Rattle.dw_addresses.specs.Names.{compilation_directory, function_name}
use Rattle.dw_addresses.specs.declared.frame.Place.{Place}
use Rattle.dw_lookup.specs.declared.known.Known.{Known}

-- the entries of the file
abbrev pub entries_of : Known → Entries
entries_of known = known.image.now.entries

-- the name of the function that is the entry with a number, if it has one
abbrev pub name_at : Known → Option ℕ → Option (List ℕ)
name_at known number =
    option_and_then (function_name (entries_of known))
    (option_and_then (nth_of (all_entries (entries_of known))) number)

-- the directory of the compilation of the unit with a number, empty if it names none
abbrev pub directory_in : Known → ℕ → List ℕ
directory_in known unit = if nat_lt unit (length (units_of (entries_of known)))
    then unwrap_or (compilation_directory (entries_of known) unit) [] else []

module _ (known : Known) (unit : ℕ) where
  -- the path of a file of the unit, if it has this file
  abbrev pub file_path : ℕ → Option (List ℕ)
  file_path file = path_in known.lines unit file (directory_in known unit)

  -- the path of the file of a place, if it is known
  abbrev pub path_at : Option Place → Option (List ℕ)
  path_at None = None
  path_at (Some place) = option_and_then file_path place.file

-- the line of a place, 0 if it is not known
abbrev pub line_at : Option Place → ℕ
line_at None = 0
line_at (Some place) = place.line

-- the column of a place, 0 if it is not known
abbrev pub column_at : Option Place → ℕ
column_at None = 0
column_at (Some place) = place.column
