use Rattle.std.proofs.Common.{rules, Some}
use Rattle.dw_entries.proofs.OverLaws.{on_some, form_fits, some_first, next_over, steps_over, specs_left}
use Rattle.dw_entries.proofs.values.Values.step_to.Goals as goal

pub go-requires-clause-some : goal.go-requires-clause-some
go-requires-clause-some c = search (rules, on_some)

pub take_by-requires : goal.take_by-requires
take_by-requires c =
    form_fits (Some c.args.form) c.args.step.now.lead (specs_left c.go.new.self) c.requires.form c.go.ensures.first

pub unreachable-requires : goal.unreachable-requires
unreachable-requires c = search (rules, some_first)

pub returns-clause-next : goal.returns-clause-next
returns-clause-next c = search (rules, next_over)

pub returns-clause-declared : goal.returns-clause-declared
returns-clause-declared c = search (rules, steps_over)
