use Rattle.std.proofs.Common.{◌≡◌, ◌≤◌, length}
use Rattle.dw_forms.specs.Chains.{codes_in, number_in}
use Rattle.dw_forms.proofs.chains.search.Given as goal

abbrev pub invariant-loop-number : goal.invariant-loop-number
invariant-loop-number g l =
    let links = g.L.Links.links l.links in
    record {
      within : l.number ≤ length links;
      same : number_in (codes_in links l.number) l.code ≡ number_in (codes_in links l.chain) l.code;
    }

abbrev pub decreases-loop-number : goal.decreases-loop-number
decreases-loop-number g l = l.number
