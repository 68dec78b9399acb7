use Rattle.std.proofs.Common.{arith}
use Rattle.dw_cprint.specs.Refusals.{NotPrintable, cycle}
use Rattle.dw_cprint.specs.Shapes.{view_subject}
use Rattle.dw_cprint.specs.Steps.{types_declared}
use Rattle.dw_cprint.proofs.RefusalLemmas.{too-long, not-too-long}
use Rattle.dw_cprint.proofs.SurveyLemmas.{types-known}
use Rattle.dw_cprint.proofs.survey.Survey.refusal.Goals as goal

pub returns-in-Some : goal.returns-in-Some
returns-in-Some c = λ shapes roots survey among.
    rw c.in-Some.is at (c.refusal_by_types.ensures shapes roots survey among)

pub returns-then-length-gt-LIMIT : goal.returns-then-length-gt-LIMIT
returns-then-length-gt-LIMIT c = λ shapes roots survey among.
    let x = view_subject c.args.subject.now in
    let none = rw c.in_default.is at (c.refusal_by_types.ensures shapes roots survey among) in
    let known = types-known survey (types_declared x) among
    (λ r. none NotPrintable (omega arith) (cycle r.0 r.1 r.2)) in
    too-long shapes x c.args.self.now c.length_declared-length.result known c.length_declared-length.ensures
    c.if-length-gt-LIMIT.true none

pub returns : goal.returns
returns c = λ shapes roots survey among.
    let x = view_subject c.args.subject.now in
    let none = rw c.in_default.is at (c.refusal_by_types.ensures shapes roots survey among) in
    let known = types-known survey (types_declared x) among
    (λ r. none NotPrintable (omega arith) (cycle r.0 r.1 r.2)) in
    not-too-long shapes x c.args.self.now c.length_declared-length.result known c.length_declared-length.ensures
    c.if-length-gt-LIMIT.false none
