use Rattle.dw_forms.proofs.CodeLaws.{AreAppended}
use Rattle.dw_forms.proofs.chains.push_branches.Given as goal

abbrev pub invariant-loop-place : goal.invariant-loop-place
invariant-loop-place g l =
    AreAppended l.fn.branches.items l.branches.items (g.L.Links.links l.links) l.rest l.code l.place l.number
