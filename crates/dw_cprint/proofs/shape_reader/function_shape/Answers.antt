use Rattle.std.proofs.Common.{rules, sym, ◌∙◌}
use Rattle.std.proofs.lemmas.List.{map-id}
use Rattle.dw_image.specs.Images.{entries_in}
use Rattle.dw_cprint.specs.EntryShapes.{parameter_at}
use Rattle.dw_cprint.proofs.LookUpLemmas.{kept-are}
use Rattle.dw_cprint.proofs.shape_reader.function_shape.Goals as goal

pub returns : goal.returns
returns c =
    let image = c.args.image.now in
    let parameters = sym (map-id _)
    ∙ kept-are (λ x. x) (parameter_at image) (entries_in image) c.args.id _ _ c.in_ok-parameters.ensures
    (λ child one w is. search rules) in
    rw parameters (search rules)
