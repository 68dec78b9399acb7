use Rattle.std.proofs.Common.{take}
use Rattle.dw_cprint.specs.Reach.{AddsRow}
use Rattle.dw_cprint.specs.Steps.{entries_among}
use Rattle.dw_cprint.proofs.reaching.push_row.Given as goal

abbrev pub invariant-loop-at : goal.invariant-loop-at
invariant-loop-at l =
    AddsRow (entries_among (take l.at-index l.types)) l.fn.places.items l.places.items l.fn.found l.found l.fn.steps
    l.steps
