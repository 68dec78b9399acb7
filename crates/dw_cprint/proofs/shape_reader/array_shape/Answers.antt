use Rattle.std.proofs.Common.{rules}
use Rattle.dw_cprint.specs.EntryShapes.{is_strange_child}
use Rattle.dw_cprint.proofs.shape_reader.array_shape.Goals as goal

pub returns : goal.returns
returns c =
    let image = c.args.image.now in
    let strange = c.any_child-strange_child.ensures (is_strange_child image) (λ child r w is. search rules) in
    search rules
