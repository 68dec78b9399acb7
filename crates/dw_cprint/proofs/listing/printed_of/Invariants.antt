use Rattle.std.proofs.Common.{◌≡◌, take}
use Rattle.std.specs.Prelude.{filter}
use Rattle.dw_cprint.specs.Judgements.{is_printed}
use Rattle.dw_cprint.proofs.listing.printed_of.Given as goal

abbrev pub invariant-loop-number : goal.invariant-loop-number
invariant-loop-number l = l.printed.keys ≡ filter (is_printed l.refusals) (take l.number-index l.numbers)
