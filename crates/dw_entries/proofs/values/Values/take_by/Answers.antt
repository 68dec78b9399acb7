use Rattle.std.proofs.Common.{rules}
use Rattle.dw_forms.specs.Value.{view}
use Rattle.dw_entries.proofs.PlacedLaws.{leaves, rest_of_slice}
use Rattle.dw_entries.proofs.ScanLaws.{rest_of}
use Rattle.dw_entries.proofs.ValueSteps.{form_allowed, form_reads, left_after, steps_after, takes_after, reads_first}
use Rattle.dw_entries.proofs.values.Values.take_by.Goals as goal

pub unreachable-requires : goal.unreachable-requires
unreachable-requires c = search (rules, form_reads)

pub read_value-requires-clause-allowed : goal.read_value-requires-clause-allowed
read_value-requires-clause-allowed c = search (rules, form_allowed)

pub invariant_of-self : goal.invariant_of-self
invariant_of-self c = search (rules, left_after, rest_of_slice)

pub unreachable-requires-in-Err : goal.unreachable-requires-in-Err
unreachable-requires-in-Err c = search (rules, form_reads)

pub returns-clause-steps : goal.returns-clause-steps
returns-clause-steps c = search (rules, steps_after)

pub returns-clause-declared : goal.returns-clause-declared
returns-clause-declared c =
    reads_first c.args.self.now c.args.form c.in-Some.spec c.in-Some.rest c.unwrap_or-form.result c.in-Some.ensures.0
    c.requires c.unwrap_or-form.ensures (view c.in-Ok.value) c.in-Ok.len
    c.in-Ok.ensures.found.within c.in-Ok.ensures.exact

pub returns-clause-bytes : goal.returns-clause-bytes
returns-clause-bytes c = search (rules, leaves, rest_of)

pub returns-clause-taken : goal.returns-clause-taken
returns-clause-taken c = search (rules, takes_after)
