use Rattle.std.proofs.Common.{rules}
use Rattle.dw_cprint.specs.EntryShapes.{is_odd_child}
use Rattle.dw_cprint.proofs.shape_reader.is_odd.Goals as goal

pub returns : goal.returns
returns c = c.any_child.ensures (is_odd_child c.args.image.now) (λ child r w is. search rules)
