use Rattle.std.proofs.Common.{ℕ, List, ◌++◌, ◌-◌, ◌^◌}
use Rattle.dw_ranges.specs.Spans.{IsChain}
use Rattle.dw_ranges.proofs.spans.functions_at.Given as goal

abbrev pub invariant-loop-function : goal.invariant-loop-function
invariant-loop-function l =
    (rest : List ℕ) → IsChain l.spans l.group l.address rest → IsChain l.spans 0 l.address (l.functions.items ++ rest)

abbrev pub decreases-loop-function : goal.decreases-loop-function
decreases-loop-function l = 2 ^ 64 - l.group
