-- Chapter: the lines of a file: the line program of each unit, and the files that entries name (DWARF 5, 2.14 and
-- 3.3.8.2).
use Rattle.std.specs.Prelude.{◌≡◌, ℕ, pos, ◌<◌, ◌⊎◌, List, length, Option, Some, None}
use Rattle.std.specs.Prelude.{Bool, true, false, not, ◌==◌, ◌&&◌, ◌||◌}
use Rattle.std.specs.Prelude.{option_and_then, slice_get, slice_index_or, if◌then◌else◌}
use Rattle.dw_entries.specs.declared.entries.Entries.{Entries}
use Rattle.dw_entries.specs.ByNumber.{entry_of, Entry}
use Rattle.dw_entries.specs.Lookups.{value_at_entry}
use Rattle.dw_entries.specs.Views.{all_entries, units_of}
use Rattle.dw_forms.specs.Codes.{DW_AT_call_file, DW_AT_decl_file}
use Rattle.dw_forms.specs.Value.{Datum, unsigned, signed}
use Rattle.dw_addresses.specs.Addresses.{row_at}
use Rattle.dw_lines.specs.Files.{has_file}
use Rattle.dw_addresses.specs.Paths.{file_path}
use Rattle.dw_lines.specs.Programs.{fields_of}
use Rattle.dw_lines.specs.Rows.{program_run}
use Rattle.dw_lines.specs.declared.program.Files.{Files}
use Rattle.dw_addresses.specs.declared.line_index.LineIndex.{LineIndex}
use Rattle.dw_lines.specs.declared.row.Row.{Row}
use Rattle.dw_lines.specs.declared.rule.LineRule.TheVariants.{NoFile}
use Rattle.dw_lines.specs.declared.program.LineSections.{LineSections}
use Rattle.dw_addresses.specs.LinePrograms.{Holds, Names, ProgramsFail, offset_named}
use Rattle.dw_addresses.specs.declared.fault.LinesFault.{LinesFault}
use Rattle.dw_addresses.specs.declared.lines.FileLines.{FileLines}

-- the program of the unit with a number
abbrev pub program_of : FileLines → ℕ → Option LineIndex
program_of lines unit =
    option_and_then (slice_get lines.programs.items) (slice_index_or lines.of_unit.items unit None)

-- the row of an address by an index of rows
abbrev pub row_by : ℕ → LineIndex → Option Row
row_by address index = row_at index.code.now (program_run index.program).rows address

-- the row of an address in the program of the unit with a number
abbrev pub row_in : FileLines → (unit address : ℕ) → Option Row
row_in lines unit address = option_and_then (row_by address) (program_of lines unit)

-- the path of a file of an index of rows, where the unit names this directory of the compilation
abbrev pub path_by : (file : ℕ) → List ℕ → LineIndex → Option (List ℕ)
path_by file directory index = if has_file index.program.header.files file
    then Some (file_path (fields_of index.program.header) directory file) else None

-- the path of a file in the program of the unit with a number
abbrev pub path_in : FileLines → (unit file : ℕ) → List ℕ → Option (List ℕ)
path_in lines unit file directory = option_and_then (path_by file directory) (program_of lines unit)

module _ (sections : LineSections) (code : List (ℕ × ℕ)) (entries : Entries) where
  -- this is the program of the unit with a number: the one that it names, which violates no rule, with the rows of the
  -- addresses of this code
  abbrev pub IsProgramOf : (unit : ℕ) → Option LineIndex → Type 0
  IsProgramOf unit None = offset_named entries unit ≡ None
  IsProgramOf unit (Some index) = (at size : ℕ) × Names entries unit at size
      × Holds sections entries at size index.program × (index.code.now ≡ code)

  -- the programs of the units of a file, which violate no rule
  pub record HasPrograms (lines : FileLines) : Type 0 where
    pub count : length lines.of_unit.items ≡ length (units_of entries)
    pub each : (unit : ℕ) → unit < length (units_of entries) → IsProgramOf unit (program_of lines unit)

-- the number that a value is, if it is one
abbrev pub number_in : Datum → Option ℕ
number_in (unsigned n) = Some n
number_in (signed (pos n)) = Some n
number_in datum = None

-- whether a number, where there is one, is one that DW_AT_decl_file and DW_AT_call_file may have: that of a file, or
-- before version 5 number 0, which names no file
abbrev pub names_file : Files → Option ℕ → Bool
names_file files None = false
names_file files (Some n) = has_file files n || (n == 0 && files.first == 1)

-- whether the value of an attribute, if there is one, is the number of a file
abbrev pub may_be_file : Files → Option Datum → Bool
may_be_file files None = true
may_be_file files (Some value) = names_file files (number_in value)

-- the first attribute of an entry that names no file
abbrev pub no_file : Files → Entry → Option ℕ
no_file files e =
    if not (may_be_file files (value_at_entry e DW_AT_decl_file)) then Some DW_AT_decl_file else
    if not (may_be_file files (value_at_entry e DW_AT_call_file)) then Some DW_AT_call_file else None

-- the same by the program of its unit. Without a program the attributes say nothing
abbrev pub no_file_in : Option LineIndex → Entry → Option ℕ
no_file_in None e = None
no_file_in (Some index) e = no_file index.program.header.files e

-- the first attribute of the entry with a number that names no file of its unit's program
abbrev pub no_file_at : FileLines → List Entry → ℕ → Option ℕ
no_file_at lines entries number = no_file_in (program_of lines (entry_of entries number).unit) (entry_of entries number)

-- each file that an entry names is one of its unit's program
abbrev pub HasFiles : FileLines → List Entry → Type 0
HasFiles lines entries = (number : ℕ) → number < length entries → no_file_at lines entries number ≡ None

-- the first entry with an attribute that names no file (rule F1)
pub record FilesFail (lines : FileLines) (entries : List Entry) (fault : LinesFault) : Type 0 where
  pub number : ℕ
  pub within : number < length entries
  pub attribute : no_file_at lines entries number ≡ Some fault.attribute
  pub first : (k : ℕ) → k < number → no_file_at lines entries k ≡ None
  pub is : fault.fault ≡ record { rule = NoFile; at = (entry_of entries number).at }

module _ (sections : LineSections) (code : List (ℕ × ℕ)) (entries : Entries) where
  -- the lines of a file, which violate no rule
  pub record HasLines (lines : FileLines) : Type 0 where
    pub programs : HasPrograms sections code entries lines
    pub files : HasFiles lines (all_entries entries)

  -- the first rule that they violate: one on programs, and only if there is none F1
  abbrev pub LinesFail : LinesFault → Type 0
  LinesFail fault = (ProgramsFail sections entries fault.fault × (fault.attribute ≡ 0))
      ⊎ ((lines : FileLines) × HasPrograms sections code entries lines × FilesFail lines (all_entries entries) fault)
