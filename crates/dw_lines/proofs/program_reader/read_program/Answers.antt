use Rattle.std.proofs.Common.{drop, refl}
use Rattle.dw_lines.specs.Programs.{program_view, line_program}
use Rattle.dw_lines.proofs.FormatLaws.{begins}
use Rattle.dw_lines.proofs.program_reader.read_program.Goals as goal

pub returns-in-Ok-clause-found : goal.returns-in-Ok-clause-found
returns-in-Ok-clause-found c = begins (line_program c.args.sections.now c.args.address_size)
    (drop c.args.offset c.args.sections.now.line.now) (program_view c.in-Ok.program) _ refl c.in-Ok.ensures.exact
