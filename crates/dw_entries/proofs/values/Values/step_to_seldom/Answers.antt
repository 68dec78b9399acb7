use Rattle.std.proofs.Common.{rules, None, refl}
use Rattle.dw_entries.proofs.OverLaws.{next_over, on_some, some_first, steps_over}
use Rattle.dw_entries.proofs.PlacedLaws.{rest_of_slice}
use Rattle.dw_entries.proofs.ValueSteps.{form_allowed, form_reads, left_after, reads_first, steps_after}
use Rattle.dw_entries.proofs.values.Values.step_to_seldom.Goals as goal

pub go-requires-clause-some : goal.go-requires-clause-some
go-requires-clause-some c = search (rules, on_some)

pub unreachable-requires : goal.unreachable-requires
unreachable-requires c = search (rules, some_first)

pub read_seldom-requires-clause-allowed : goal.read_seldom-requires-clause-allowed
read_seldom-requires-clause-allowed c = search (rules, form_allowed)

pub invariant_of-self : goal.invariant_of-self
invariant_of-self c =
    let v = c.go.new.self in
    record {
      sized = v.sized;
      left =
          left_after v None _ c.in-Some.rest _ c.in-Some.ensures.0 tt refl
          _ _ c.in-Ok.ensures.within c.in-Ok.ensures.exact;
      rest = search (rules, rest_of_slice);
    }

pub unreachable-requires-in-Err : goal.unreachable-requires-in-Err
unreachable-requires-in-Err c =
    form_reads c.go.new.self None c.in-Some.spec c.in-Some.rest c.in-Some.spec.form c.in-Some.ensures.0 tt refl
    c.in-Err.field-0 c.in-Err.ensures.exact

pub returns-clause-next : goal.returns-clause-next
returns-clause-next c =
    let v = c.go.new.self in
    search (
      next_over c.go.ensures.passed,
      steps_after v None _ c.in-Some.rest _ c.in-Some.ensures.0 tt refl
          _ _ c.in-Ok.ensures.within c.in-Ok.ensures.exact,
    )

pub returns-clause-declared : goal.returns-clause-declared
returns-clause-declared c = search (rules, steps_over, reads_first)
