use Rattle.std.proofs.Common.{rules, None, refl}
use Rattle.dw_entries.proofs.OverLaws.{some_first, passed_on, past, past_fewer}
use Rattle.dw_entries.proofs.PlacedLaws.{rest_of_slice}
use Rattle.dw_entries.proofs.ValueSteps.{form_allowed, left_after, skipped, skips_on}
use Rattle.dw_entries.proofs.values.Values.step_past.Goals as goal

pub go-requires-clause-some : goal.go-requires-clause-some
go-requires-clause-some c = search (rules, passed_on)

pub unreachable-requires : goal.unreachable-requires
unreachable-requires c = search (rules, some_first)

pub skip_value-requires-clause-allowed : goal.skip_value-requires-clause-allowed
skip_value-requires-clause-allowed c = search (rules, form_allowed)

pub invariant_of-self : goal.invariant_of-self
invariant_of-self c =
    let v = c.go.new.self in
    let d = skipped v _ c.in-Some.rest c.in-Some.ensures.0 _ c.in-Ok.ensures.exact in
    record {
      sized = v.sized;
      left =
          left_after v None _ c.in-Some.rest _ c.in-Some.ensures.0 tt refl d.0 _ c.in-Ok.ensures.within d.1;
      rest = search (rules, rest_of_slice);
    }

pub unreachable-requires-in-Err : goal.unreachable-requires-in-Err
unreachable-requires-in-Err c = search (rules, skips_on)

pub returns-clause-passed : goal.returns-clause-passed
returns-clause-passed c = search (rules, skipped, past)

pub returns-clause-fewer : goal.returns-clause-fewer
returns-clause-fewer c =
    let v = c.go.new.self in
    let d = skipped v _ c.in-Some.rest c.in-Some.ensures.0 _ c.in-Ok.ensures.exact in
    search (past_fewer v c.go.ensures.passed _ c.in-Some.rest c.in-Some.ensures.0 d.0 _ c.in-Ok.ensures.within d.1)
