use Rattle.std.proofs.Common.{ℕ, ◌↔◌}
use Rattle.dw_ranges.specs.Areas.{Has}
use Rattle.dw_lookup.proofs.PartLemmas.{IsCodeBefore}
use Rattle.dw_lookup.proofs.parts.code_areas.Given as goal

abbrev pub invariant-loop-k : goal.invariant-loop-k
invariant-loop-k l = (a : ℕ) → Has l.areas.items a ↔ IsCodeBefore l.file l.k a
