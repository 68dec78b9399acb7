use Rattle.std.proofs.Common.{rules}
use Rattle.dw_entries.proofs.OffsetSteps.{offset_first, offset_left, offset_on, offset_steps, offset_there}
use Rattle.dw_entries.proofs.OverLaws.{next_over, some_first, steps_over}
use Rattle.dw_entries.proofs.PlacedLaws.{rest_of_slice}
use Rattle.dw_entries.proofs.values.Values.step_to_offset.Goals as goal

pub go-requires-clause-some : goal.go-requires-clause-some
go-requires-clause-some c = search (rules, offset_on)

pub unreachable-requires : goal.unreachable-requires
unreachable-requires c = search (rules, some_first)

pub invariant_of-self : goal.invariant_of-self
invariant_of-self c =
    let v = c.go.new.self in
    record {
      sized = v.sized;
      left =
          offset_left v _ c.requires.offset c.go.ensures.first _ c.in-Some.rest
          c.in-Some.ensures.0 _ c.in-Ok.ensures.within c.in-Ok.ensures.exact;
      rest = rest_of_slice v.info.now v.bytes.now 4 v.rest c.in-Ok.ensures.within;
    }

pub unreachable-requires-in-Err : goal.unreachable-requires-in-Err
unreachable-requires-in-Err c =
    offset_there c.go.new.self c.args.step.now.lead c.requires.offset c.go.ensures.first c.in-Some.spec c.in-Some.rest
    c.in-Some.ensures.0 c.in-Err.field-0 c.in-Err.ensures.exact

pub returns-clause-next : goal.returns-clause-next
returns-clause-next c =
    let v = c.go.new.self in
    search (
      next_over c.go.ensures.passed,
      offset_steps v _ c.requires.offset c.go.ensures.first _
          c.in-Some.rest c.in-Some.ensures.0 _ c.in-Ok.ensures.within c.in-Ok.ensures.exact,
    )

pub returns-clause-declared : goal.returns-clause-declared
returns-clause-declared c =
    let v = c.go.new.self in
    steps_over c.go.ensures.passed _ _ _ c.go.ensures.first
    (offset_first v _ c.requires.offset c.go.ensures.first _ c.in-Some.rest
    c.in-Some.ensures.0 _ c.in-Ok.ensures.within c.in-Ok.ensures.exact)
