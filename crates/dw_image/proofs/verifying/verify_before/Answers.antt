use Rattle.std.proofs.Common.{arith}
use Rattle.dw_forms.specs.Rules.{group_of}
use Rattle.dw_image.proofs.JoinLemmas.{pass_fault}
use Rattle.dw_image.proofs.verifying.verify_before.Goals as goal

pub returns-in-Err-Fault : goal.returns-in-Err-Fault
returns-in-Err-Fault c =
    let judged = rw c.in-Err-Fault.field-0-is at c.in-Err-Fault.ensures.fault in
    pass_fault c.args.entries c.in-Err-Fault.fault (group_of c.args.rule) judged.first
    (omega (arith, c.if-group.false, c.group-in-Err-Fault.ensures, c.group-in-Err-Fault-2.ensures))
