-- Chapter: the frames at an address: the functions that have it, the innermost first, and for each the place in a
-- source file: where the address is, or the call of the function inlined there (DWARF 5, 2.14, 3.3.8 and 6.2.2).
use Rattle.std.specs.Prelude.{◌≡◌, ℕ, List, [], ◌∷◌, ◌++◌, Option, Some, None, option_and_then, option_map}
use Rattle.std.specs.Option.{unwrap_or}
use Rattle.dw_entries.specs.ByNumber.{entry_of, Entry}
use Rattle.dw_entries.specs.Lookups.{value_at_entry}
use Rattle.dw_forms.specs.Codes.{DW_AT_call_file}
use Rattle.dw_lines.specs.declared.row.Row.{Row}
use Rattle.dw_ranges.specs.Files.{AreFunctionsAt}
use Rattle.dw_ranges.specs.Functions.{Known}
use Rattle.dw_addresses.specs.Lines.{number_in, row_in}
use Rattle.dw_addresses.specs.declared.frame.Frame.{Frame}
use Rattle.dw_addresses.specs.declared.frame.Place.{Place}
use Rattle.dw_addresses.specs.declared.lines.FileLines.{FileLines}

-- the codes of attributes (7.5.4, Table 7.5)
abbrev pub DW_AT_call_column : ℕ
DW_AT_call_column = 0x57

abbrev pub DW_AT_call_line : ℕ
DW_AT_call_line = 0x59

-- the place of a row
abbrev pub place_of : Row → Place
place_of row = record { file = Some row.file; line = row.line; column = row.column }

-- the number that is the value of an attribute of the entry with a number, if there is one
abbrev pub number_at : List Entry → ℕ → ℕ → Option ℕ
number_at entries number attribute = option_and_then number_in (value_at_entry (entry_of entries number) attribute)

-- the place of the call of a function that is inlined: a line or a column that is not given is 0
abbrev pub call_place : List Entry → ℕ → Place
call_place entries function = record {
  file = number_at entries function DW_AT_call_file;
  line = unwrap_or (number_at entries function DW_AT_call_line) 0;
  column = unwrap_or (number_at entries function DW_AT_call_column) 0;
}

-- the place in a function, before the functions inlined in it, each in the one before: the call of the first of these,
-- or the row of the address if there are none
abbrev pub place_in : List Entry → Option Place → List ℕ → Option Place
place_in entries row [] = row
place_in entries row (function ∷ inner) = Some (call_place entries function)

-- the frames of functions, each inlined in the one before it, the innermost first
abbrev pub frames_of : List Entry → Option Place → List ℕ → List Frame
frames_of entries row [] = []
frames_of entries row (function ∷ inner) = frames_of entries row inner
    ++ record { function = Some function; place = place_in entries row inner } ∷ []

-- the frames at an address. Where no function has it, its row is a frame without a function
abbrev pub frames_at : List Entry → Option Place → List ℕ → List Frame
frames_at entries None [] = []
frames_at entries (Some row) [] = record { function = None; place = Some row } ∷ []
frames_at entries row (function ∷ inner) = frames_of entries row (function ∷ inner)

-- the place of an address by the line program of its unit
abbrev pub row_place : FileLines → ℕ → Option ℕ → Option Place
row_place lines a unit = option_map place_of (option_and_then (λ u. row_in lines u a) unit)

-- these are the frames at an address: by its unit, and the functions of this unit that have it
abbrev pub AreFramesAt : FileLines → List Entry → List Known → (a : ℕ) → Option ℕ → List Frame → Type 0
AreFramesAt lines entries units a unit frames = (functions : List ℕ) × AreFunctionsAt units a unit functions
    × (frames ≡ frames_at entries (row_place lines a unit) functions)
