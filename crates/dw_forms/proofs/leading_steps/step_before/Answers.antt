use Rattle.std.proofs.Common.{sym, ◌∙◌}
use Rattle.dw_forms.proofs.NodeLaws.{step_here, step_past}
use Rattle.dw_forms.proofs.leading_steps.step_before.Goals as goal

pub returns-then-stops_at : goal.returns-then-stops_at
returns-then-stops_at c list is =
    step_here _ _ list _ is _ c.lead_of.ensures
    (sym c.stops_at.ensures ∙ c.if-stops_at.true)

pub returns : goal.returns
returns c list is =
    step_past _ _ list _ is _ _
    c.known_size.ensures.same c.addresses_in.ensures.same c.known_size.ensures.small c.addresses_in.ensures.few
    (sym c.stops_at.ensures ∙ c.if-stops_at.false)
