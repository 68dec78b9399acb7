-- State: the line programs that units name, and those of them that were read.
use Rattle.std.specs.Prelude.{◌≡◌, ◌≢◌, ℕ, suc, ◌-◌, ◌<◌, ◌≤◌, ◌⊎◌, List, length, Option, Some, None, All, Contains}
use Rattle.std.specs.Prelude.{slice_get, slice_index_or}
use Rattle.dw_entries.specs.declared.entries.Entries.{Entries}
use Rattle.dw_entries.specs.Views.{units_of}
use Rattle.dw_lines.specs.Programs.{program_end}
use Rattle.dw_addresses.specs.declared.line_index.LineIndex.{LineIndex}
use Rattle.dw_lines.specs.declared.program.LineSections.{LineSections}
use Rattle.dw_lines.specs.declared.rule.LineFault.{LineFault}
use Rattle.dw_lines.specs.declared.rule.LineRule.TheVariants.{ProgramsMeet}
use Rattle.dw_addresses.specs.LinePrograms.{IsInvalid, IsValid, Names, offset_named}
use Rattle.dw_addresses.specs.Lines.{program_of}
use Rattle.dw_addresses.specs.declared.lines.FileLines.{FileLines}
use Rattle.dw_addresses.specs.declared.named.Named.{Named}
use Rattle.dw_addresses.specs.declared.programs.Last.{Last}

-- a unit names this program
abbrev pub IsOne : Entries → Named → Type 0
IsOne entries one = Names entries one.unit one.at one.size

-- this is the program that the unit with a number names
abbrev pub IsNamed : Entries → ℕ → Option Named → Type 0
IsNamed entries unit None = offset_named entries unit ≡ None
IsNamed entries unit (Some one) = (one.unit ≡ unit) × IsOne entries one

-- these are the programs that the first units name, so many
pub record AllNamed (entries : Entries) (count : ℕ) (named : List Named) : Type 0 where
  pub each : All (IsOne entries) named
  pub every : (one : Named) → one.unit < count → IsOne entries one → Contains named one

-- the order of programs: by offset, and then by the size of an address
abbrev pub IsUpTo : Named → Named → Type 0
IsUpTo x y = (x.at < y.at) ⊎ ((x.at ≡ y.at) × (x.size ≤ y.size))

-- this is the program at an offset, whose opcodes violate no rule, with the rows of the addresses of this code
pub record IsRead (sections : LineSections) (code : List (ℕ × ℕ)) (at size : ℕ) (index : LineIndex) : Type 0 where
  pub valid : IsValid sections at size index.program
  pub code_is : index.code.now ≡ code

-- the program that is named was read for its unit
abbrev pub IsKept : LineSections → List (ℕ × ℕ) → FileLines → Named → Type 0
IsKept sections code lines one =
    (index : LineIndex) × (program_of lines one.unit ≡ Some index) × IsRead sections code one.at one.size index

-- the program that was read last, if there is one, is the last one that is kept
abbrev pub HasLast : LineSections → List (ℕ × ℕ) → FileLines → Last → Type 0
HasLast sections code lines last = (last.size ≡ 0) ⊎ (1 ≤ length lines.programs.items × ((index : LineIndex)
    × (slice_get lines.programs.items (length lines.programs.items - 1) ≡ Some index)
    × IsRead sections code last.at last.size index × (last.end ≡ program_end sections last.at)))

-- a program does not start inside the one that was read last
abbrev pub IsAfter : Last → ℕ → Type 0
IsAfter last at = (last.at ≡ at) ⊎ (last.end ≤ at)

-- the program that is next was read, or was the last one, and is kept for its unit, and those of other units are as
-- they were
pub record IsNext (sections : LineSections) (code : List (ℕ × ℕ)) (one : Named) (last : Last) (lines : FileLines)
    (new_last : Last) (new : FileLines) : Type 0 where
  pub at : new_last.at ≡ one.at
  pub end : new_last.end ≡ program_end sections one.at
  pub after : IsAfter last one.at
  pub is_last : HasLast sections code new new_last
  pub count : length new.of_unit.items ≡ length lines.of_unit.items
  pub kept : IsKept sections code new one
  pub others : (unit : ℕ) (index : LineIndex) → unit ≢ one.unit → program_of lines unit ≡ Some index
      → program_of new unit ≡ Some index
  pub none : (unit : ℕ) → unit ≢ one.unit → slice_index_or lines.of_unit.items unit None ≡ None
      → slice_index_or new.of_unit.items unit None ≡ None

-- the program that is next violates a rule
abbrev pub NextFails : LineSections → Named → Last → LineFault → Type 0
NextFails sections one last fault =
    ((last.at ≢ one.at) × (one.at < last.end) × (fault ≡ record { rule = ProgramsMeet; at = one.at }))
    ⊎ (IsAfter last one.at × IsInvalid sections one.at one.size fault)

-- the first of these programs, so many, are kept, and the last of them is the one that was read last
pub record AreKept (sections : LineSections) (code : List (ℕ × ℕ)) (entries : Entries) (named : List Named) (count : ℕ)
    (lines : FileLines) (last : Last) : Type 0 where
  pub long : length lines.of_unit.items ≡ length (units_of entries)
  pub kept : (j : ℕ) (d : Named) → j < count → IsKept sections code lines (slice_index_or named j d)
  pub none : (unit : ℕ) → offset_named entries unit ≡ None → slice_index_or lines.of_unit.items unit None ≡ None
  pub apart : (i j : ℕ) (d : Named) → i < count → j < count
      → (slice_index_or named i d).at < (slice_index_or named j d).at
      → program_end sections (slice_index_or named i d).at ≤ (slice_index_or named j d).at
  pub has_last : HasLast sections code lines last
  pub first : count ≡ 0 → last.end ≡ 0
  pub is_last : (j : ℕ) (d : Named) → count ≡ suc j → (last.at ≡ (slice_index_or named j d).at)
      × (last.end ≡ program_end sections (slice_index_or named j d).at)
