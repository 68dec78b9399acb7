use Rattle.dw_cprint.proofs.LevelLemmas.{held-first}
use Rattle.dw_cprint.proofs.laws.held_types_come_first.Goals as goal

pub returns : goal.returns
returns c = held-first
