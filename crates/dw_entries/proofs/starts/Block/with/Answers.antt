use Rattle.std.proofs.Common.{refl, inl, inr}
use Rattle.dw_entries.proofs.StartLaws.{starts_too}
use Rattle.dw_entries.proofs.starts.Block.with.Goals as goal
use Rattle.dw_entries.proofs.starts.Block.with.Goals.{then-self-eq0, else-self-eq0}

pub returns : goal.returns
returns c =
    starts_too c.args.self c.args.byte c.args.number c.requires.byte c.requires.next _ refl
    (elim c.if-self-eq0.branch [
      | then-self-eq0 w ↦ inl (w.if-self-eq0.true, w.result-is)
      | else-self-eq0 w ↦ inr (w.if-self-eq0.false, w.result-is)
    ])
