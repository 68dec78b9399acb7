use Rattle.std.proofs.Common.{drop}
use Rattle.dw_forms.specs.Formats.{apart, one_fault}
use Rattle.dw_lines.specs.Programs.{line_program, program_at}
use Rattle.dw_lines.proofs.program_reader.programs_are_apart.Goals as goal

pub returns-clause-apart : goal.returns-clause-apart
returns-clause-apart c = λ sections size. apart (line_program sections size)

pub returns-clause-one_fault : goal.returns-clause-one_fault
returns-clause-one_fault c =
    λ sections size offset. one_fault (program_at sections size offset) (drop offset sections.line.now)
