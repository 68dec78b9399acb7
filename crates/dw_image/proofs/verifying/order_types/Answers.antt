use Rattle.std.proofs.Common.{rules}
use Rattle.std.proofs.lemmas.Result.{err_from_is_err_and}
use Rattle.dw_entries.proofs.StopLaws.{faulty_weaker}
use Rattle.dw_image.proofs.JoinLemmas.{wrong_shape, contains_itself}
use Rattle.dw_image.proofs.verifying.order_types.Goals as goal

pub returns-in_err-steps-clause-fault : goal.returns-in_err-steps-clause-fault
returns-in_err-steps-clause-fault c =
    let here = faulty_weaker c.in_err-steps.field-0.0 (wrong_shape c.args.links.now) c.in_err-steps.ensures.fault in
    search (rules, err_from_is_err_and, here)

pub returns-in-Ok-clause-steps : goal.returns-in-Ok-clause-steps
returns-in-Ok-clause-steps c = record {
  graph = c.in_ok-steps.ensures.graph;
  types = c.in_ok-steps.ensures.types;
  flags = c.in_ok-steps.ensures.flags;
}

pub returns-in-Err-Cycle-clause-fault : goal.returns-in-Err-Cycle-clause-fault
returns-in-Err-Cycle-clause-fault c =
    contains_itself c.args.links.now c.in_ok-cycle_fault-in-Err-Cycle.field-0 c.in_ok-steps.ensures.sound
    c.in_ok-cycle_fault-in-Err-Cycle.ensures
