use Rattle.std.proofs.Common.{inl, inr}
use Rattle.dw_entries.proofs.OverLaws.{nothing_left}
use Rattle.dw_entries.proofs.leads.Leading.take_next.Goals as goal

pub returns-in-Nothing-clause-none : goal.returns-in-Nothing-clause-none
returns-in-Nothing-clause-none c =
    let it = c.args.self.now in
    let v = it.values in
    elim c.in-Nothing.is [
      | inl none ↦
          nothing_left v.attributes it.step.now it.steps _ v.bytes.now v.left none
      | inr passed ↦ absurd (c.requires passed)
    ]
