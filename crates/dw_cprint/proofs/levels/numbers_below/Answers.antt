use Rattle.std.proofs.Common.{arith, refl}
use Rattle.std.proofs.lemmas.Iterator.{YieldsList-from_range, items_from_collect}
use Rattle.dw_cprint.proofs.levels.numbers_below.Goals as goal

pub returns : goal.returns
returns c = items_from_collect _ c.collect.ensures.ran (YieldsList-from_range 0 _ c.args.count refl (omega arith))
