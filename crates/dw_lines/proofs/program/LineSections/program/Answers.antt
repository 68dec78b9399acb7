use Rattle.std.proofs.Common.{arith, refl, length-drop}
use Rattle.std.proofs.lemmas.List.{drop_all, take_rest}
use Rattle.dw_forms.specs.BaseFormats.{taken_at}
use Rattle.dw_lines.specs.Programs.{line_program, header}
use Rattle.dw_lines.proofs.FormatLaws.{content_at, content_end, leaves, left_at}
use Rattle.dw_lines.proofs.program.LineSections.program.Goals as goal

pub returns-then-self-offset-clause-exact : goal.returns-then-self-offset-clause-exact
unfolding line_program taken_at
returns-then-self-offset-clause-exact c =
    rw (drop_all c.args.offset c.args.self.now.line.now c.if-self-offset.true) refl

pub overflow_sub-opcodes_at : goal.overflow_sub-opcodes_at
overflow_sub-opcodes_at c = leaves (header c.args.self.now c.args.size) _ _ _ c.in_ok-header.ensures

pub invariant_of-result : goal.invariant_of-result
invariant_of-result c =
    let at = rw take_rest at (content_at _ _ _ _ _ c.in_ok-len.ensures.exact c.in_ok-content.ensures) in
    record {
      fits = omega (
        arith,
        at.0,
        length-drop c.args.offset c.args.self.now.line.now,
        leaves (header c.args.self.now c.args.size) _ _ _ c.in_ok-header.ensures,
      );
    }

pub returns-clause-place : goal.returns-clause-place
returns-clause-place c =
    let at = rw take_rest at (content_at _ _ _ _ _ c.in_ok-len.ensures.exact c.in_ok-content.ensures) in
    left_at (header c.args.self.now c.args.size) _ _ _ _ _ c.in_ok-header.ensures at.1

pub returns-clause-end : goal.returns-clause-end
returns-clause-end c =
    let len = rw take_rest at c.in_ok-len.ensures.exact in
    rw (content_end _ _ _ _ _ c.args.offset len (omega arith)
    c.in_ok-content.ensures)
    (omega (arith, leaves (header c.args.self.now c.args.size) _ _ _ c.in_ok-header.ensures))

pub overflow_add-opcodes_at-2 : goal.overflow_add-opcodes_at-2
overflow_add-opcodes_at-2 c =
    let at = rw take_rest at (content_at _ _ _ _ _ c.in_ok-len.ensures.exact c.in_ok-content.ensures) in
    omega (arith, at.0, length-drop c.args.offset c.args.self.now.line.now)
