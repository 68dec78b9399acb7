-- Chapter: line programs: a header, and the bytes of the opcodes (DWARF 5, 6.2.4; DWARF 4, 6.2.4).
use Rattle.std.specs.Prelude.{ℕ, ◌+◌, List, length, drop, Result, Ok, Err, ◌==◌, if◌then◌else◌}
use Rattle.dw_forms.specs.Formats.{Format, and_then, mapped, inside, tested, renamed}
use Rattle.dw_forms.specs.Steps.{◌>>=◌}
use Rattle.dw_lines.specs.declared.rule.LineFault.{LineFault}
use Rattle.dw_lines.specs.declared.program.LineHeader.{LineHeader}
use Rattle.dw_lines.specs.declared.program.Program.{Program}
use Rattle.dw_lines.specs.declared.rule.LineRule.{LineRule}
use Rattle.dw_lines.specs.declared.rule.LineRule.TheVariants.{LineOffset, LineHeaderLength}
use Rattle.dw_lines.specs.declared.program.LineSections.{LineSections}
use Rattle.dw_lines.specs.Files.{Tables, tables, tables_of}
use Rattle.dw_lines.specs.Header.{LineParameters, numbers_of, field, content, version, parameters}
use Rattle.dw_lines.specs.Header.{standard_opcode_lengths}
use Rattle.dw_lines.specs.Repeats.{sized}

-- what a header says
pub record HeaderFields : Type 0 where
  pub version : ℕ
  pub parameters : LineParameters
  pub standard_opcode_lengths : List ℕ
  pub tables : Tables

-- the same of a header that was read
abbrev pub fields_of : LineHeader → HeaderFields
fields_of h = record {
  version = h.version;
  parameters = numbers_of h.parameters;
  standard_opcode_lengths = h.standard_opcode_lengths.now;
  tables = tables_of h.directories.items h.files;
}

-- a header and the bytes of the opcodes
abbrev pub program_view : Program → HeaderFields × List ℕ
program_view p = (fields_of p.header, p.opcodes.now)

-- the fields after header_length, where an address of the unit has this size
abbrev pub after_length : LineSections → ℕ → ℕ → Format HeaderFields LineRule
after_length sections size v = and_then (parameters v size) (λ numbers.
    and_then (standard_opcode_lengths numbers.opcode_base) (λ lengths. mapped (λ t. record {
      version = v;
      parameters = numbers;
      standard_opcode_lengths = lengths;
      tables = t;
    }) (tables sections v)))

-- a header after unit_length; the fields after header_length have so many bytes
abbrev pub header : LineSections → ℕ → Format HeaderFields LineRule
header sections size = and_then (version size) (λ v. and_then (field 4) (λ header_length. mapped (λ x. x.0)
    (tested (λ x. x.1 == header_length) LineHeaderLength (sized (after_length sections size v)))))

-- a program; where there are no bytes, there is no program at the offset
unfoldable pub line_program : LineSections → ℕ → Format (HeaderFields × List ℕ) LineRule
line_program sections size = renamed (λ bytes rule. if length bytes == 0 then LineOffset else rule)
    (and_then content (λ bytes. inside bytes (header sections size)))

-- the same at an offset, which is the place of a fault
abbrev pub program_at : LineSections → ℕ → ℕ → Format (HeaderFields × List ℕ) LineFault
program_at sections size offset = renamed (λ bytes rule. record { rule = rule; at = offset })
    (line_program sections size)

-- the bytes are this program, where an address of the unit has this size
abbrev pub SpellsProgram : LineSections → ℕ → List ℕ → HeaderFields × List ℕ → Type 0
SpellsProgram sections size = (line_program sections size).Spells

-- why no program is at an offset, by the first part of it that is wrong
abbrev pub ProgramFails : LineSections → ℕ → ℕ → LineFault → Type 0
ProgramFails sections size offset = (program_at sections size offset).Fails (drop offset sections.line.now)

-- the program at an offset, or its first fault
abbrev pub program_from : LineSections → ℕ → ℕ → Result (HeaderFields × List ℕ) LineFault
program_from sections size offset =
    (program_at sections size offset).read (drop offset sections.line.now) >>= λ x. Ok x.0

-- the same, and the rule alone
abbrev pub program_alone : LineSections → ℕ → ℕ → Result (HeaderFields × List ℕ) LineRule
program_alone sections size offset =
    (line_program sections size).read (drop offset sections.line.now) >>= λ x. Ok x.0

-- the offset after a program at this offset, by the bytes that unit_length counts and by those after them
abbrev pub after_content : ℕ → Result (List ℕ × List ℕ) LineRule → ℕ
after_content offset (Ok x) = offset + 4 + length x.0
after_content offset (Err rule) = offset

-- the offset after the program at an offset. Without a length that the section has, it is the offset itself
abbrev pub program_end : LineSections → ℕ → ℕ
program_end sections offset = after_content offset (content.read (drop offset sections.line.now))
