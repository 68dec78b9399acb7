use Rattle.std.proofs.Common.{rules}
use Rattle.dw_entries.proofs.OverLaws.{none_over, over_over, found_all, leads_all, none_all}
use Rattle.dw_entries.proofs.leads.Leading.take.Goals as goal

pub loop-self-init : goal.loop-self-init
loop-self-init c = search (rules, none_over)

pub loop-self-preserved : goal.loop-self-preserved
loop-self-preserved c = search (rules, over_over)

pub returns-clause-next : goal.returns-clause-next
returns-clause-next c = found_all c.loop-self.invariant _ _ c.take_next.ensures.next

pub returns-clause-led : goal.returns-clause-led
returns-clause-led c = leads_all c.loop-self.invariant _ _ c.take_next.ensures.led

pub returns-clause-none : goal.returns-clause-none
returns-clause-none c = search (rules, none_all)
