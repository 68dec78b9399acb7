use Rattle.std.proofs.Common.{length}
use Rattle.dw_forms.specs.Classes.{is_open}
use Rattle.dw_entries.proofs.ChosenSteps.{before_passed, next_found, none_found, stop_taken, follow}
use Rattle.dw_entries.proofs.values.Values.next_open.Goals as goal

pub pass-requires : goal.pass-requires
pass-requires c =
    let f = follow is_open c.args.self.now.attributes c.next_open-from.result c.next_open-from.ensures in
    (f.before, f.ends)

pub returns-in-Some-clause-some : goal.returns-in-Some-clause-some
returns-in-Some-clause-some c =
    let v = c.args.self.now in
    let f = follow is_open v.attributes _ c.next_open-from.ensures in
    next_found _ _ _ _ (length f.before) _ c.in-Some.ensures.steps (c.pass.ensures.left f.before f.ends)
    (before_passed is_open _ v.attributes _ c.next_open-from.ensures v.left.0.0 v.left.1.are)

pub returns-in-Some-clause-stop : goal.returns-in-Some-clause-stop
returns-in-Some-clause-stop c =
    stop_taken is_open _ _ _ _ c.next_open-from.ensures c.pass.ensures.attributes c.in-Some.ensures.first

pub returns-in-None-clause-none : goal.returns-in-None-clause-none
returns-in-None-clause-none c =
    let v = c.args.self.now in
    let f = follow is_open v.attributes _ c.next_open-from.ensures in
    none_found _ _ _ (length f.before) c.in-None.ensures.steps.0 (c.pass.ensures.left f.before f.ends)
    (before_passed is_open _ v.attributes _ c.next_open-from.ensures v.left.0.0 v.left.1.are)
