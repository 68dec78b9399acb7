use Rattle.std.proofs.Common.{rules}
use Rattle.std.proofs.Math.Nat.{zero-add}
use Rattle.dw_elf.proofs.SlotLemmas.{small_at, named_section}
use Rattle.dw_elf.proofs.finding.sections_of.Goals as goal

pub invariant_of-result : goal.invariant_of-result
invariant_of-result c = search (rules, small_at, zero-add)

pub returns : goal.returns
returns c = search (rules, named_section)
