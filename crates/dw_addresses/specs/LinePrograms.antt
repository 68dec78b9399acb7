-- Chapter: the line programs that the units of a file name (DWARF 5, 3.1.1 and 6.2), and the rules on them.
use Rattle.std.specs.Prelude.{◌≡◌, ℕ, ◌+◌, ◌<◌, ◌≤◌, ◌⊎◌, length, Option, Some, None, Ok, Err, option_and_then}
use Rattle.dw_entries.specs.declared.entries.Entries.{Entries}
use Rattle.dw_entries.specs.Views.{units_of}
use Rattle.dw_lines.specs.Programs.{program_end, program_from, program_view}
use Rattle.dw_lines.specs.Rows.{program_run}
use Rattle.dw_lines.specs.declared.rule.LineFault.{LineFault}
use Rattle.dw_lines.specs.declared.program.Program.{Program}
use Rattle.dw_lines.specs.declared.rule.LineRule.TheVariants.{ProgramsMeet}
use Rattle.dw_lines.specs.declared.program.LineSections.{LineSections}
use Rattle.dw_ranges.specs.EntryRanges.{first_value, head_in, offset_in}

-- the code of the attribute (7.5.4, Table 7.5)
abbrev pub DW_AT_stmt_list : ℕ
DW_AT_stmt_list = 0x10

-- the offset of the line program that the unit with a number names
abbrev pub offset_named : Entries → ℕ → Option ℕ
offset_named entries unit = option_and_then offset_in (first_value entries unit DW_AT_stmt_list)

-- the unit with a number names the line program at an offset, and an address of the unit has this size
pub record Names (entries : Entries) (unit at size : ℕ) : Type 0 where
  pub within : unit < length (units_of entries)
  pub offset : offset_named entries unit ≡ Some at
  pub sized : (head_in entries unit).header.address_size ≡ size

-- a program is at an offset, where an address of the unit has this size
pub record IsAt (sections : LineSections) (at size : ℕ) (p : Program) : Type 0 where
  pub reads : program_from sections size at ≡ Ok (program_view p)
  pub ends : p.opcodes_at + length p.opcodes.now ≡ program_end sections at

-- it is there, and its opcodes violate no rule
pub record IsValid (sections : LineSections) (at size : ℕ) (p : Program) : Type 0 where
  pub is_at : IsAt sections at size p
  pub runs : (program_run p).fault ≡ None

-- the opcodes of the program at an offset violate a rule (M1 to M8)
pub record RunFails (sections : LineSections) (at size : ℕ) (fault : LineFault) : Type 0 where
  pub program : Program
  pub is_at : IsAt sections at size program
  pub is : (program_run program).fault ≡ Some fault

-- the first rule that the program at an offset violates by itself: one of L1 to L12, or of M1 to M8
abbrev pub IsInvalid : LineSections → (at size : ℕ) → LineFault → Type 0
IsInvalid sections at size fault =
    (program_from sections size at ≡ Err fault) ⊎ RunFails sections at size fault

module _ (sections : LineSections) (entries : Entries) where
  -- a program that a unit names starts before an offset and ends after it
  pub record Covers (at : ℕ) : Type 0 where
    pub unit : ℕ
    pub other : ℕ
    pub size : ℕ
    pub names : Names entries unit other size
    pub starts : other < at
    pub ends : at < program_end sections other

  -- no program that a unit names does so
  abbrev pub IsApart : ℕ → Type 0
  IsApart at = (unit other size : ℕ) → Names entries unit other size → other < at → program_end sections other ≤ at

  -- the first rule that the program at an offset violates: L13, where it starts inside another one, or a rule by itself
  abbrev pub Fails : (at size : ℕ) → LineFault → Type 0
  Fails at size fault = (Covers at × (fault ≡ record { rule = ProgramsMeet; at = at }))
      ⊎ (IsApart at × IsInvalid sections at size fault)

  -- the program at an offset violates no rule
  pub record Holds (at size : ℕ) (p : Program) : Type 0 where
    pub apart : IsApart at
    pub valid : IsValid sections at size p

  -- the first rule that the programs of a file violate. Programs at smaller offsets come first, and of those at one
  -- offset the ones with smaller addresses
  pub record ProgramsFail (fault : LineFault) : Type 0 where
    pub unit : ℕ
    pub at : ℕ
    pub size : ℕ
    pub names : Names entries unit at size
    pub is : Fails at size fault
    pub first : (other a s : ℕ) → Names entries other a s → (a < at) ⊎ ((a ≡ at) × (s < size))
        → (p : Program) × Holds a s p
