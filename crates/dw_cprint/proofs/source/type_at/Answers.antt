use Rattle.std.proofs.Common.{arith}
use Rattle.dw_cprint.proofs.LevelLemmas.{few-entries}
use Rattle.dw_cprint.proofs.source.type_at.Goals as goal

pub some-requires : goal.some-requires
some-requires c = omega (arith, few-entries c.args.image.now, c.in-Some.ensures.within)
