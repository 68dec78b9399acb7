use Rattle.std.proofs.Common.{length, map, ap, ◌∙◌, arith}
use Rattle.std.proofs.lemmas.List.{get_or_default, length-map}
use Rattle.dw_types.specs.Packing.{cut}
use Rattle.dw_cprint.specs.EntryShapes.{shape_in}
use Rattle.dw_cprint.specs.Shapes.{view_shape}
use Rattle.dw_cprint.specs.Steps.{entries_among}
use Rattle.dw_cprint.proofs.SurveyLemmas.{survey-done, nodes-of}
use Rattle.dw_cprint.proofs.survey.Survey.new.Goals as goal

pub summarize-requires : goal.summarize-requires
summarize-requires c = λ k d below.
    let r = c.in_ok-survey.ensures in
    let shapes = shape_in c.args.source.now.image.now in
    omega (
      arith,
      c.in_ok-clear.ensures.within k below,
      get_or_default c.in_ok-clear.clear k d 0 below,
      ap
          length r.are_shapes,
      r.reach.nodes,
      length-map c.in_ok-survey.survey.shapes.items view_shape,
      length-map r.found
          shapes,
    )

pub returns : goal.returns
returns c =
    let shapes = shape_in c.args.source.now.image.now in
    let roots = entries_among c.args.types.items in
    let graph = cut c.in_ok-survey.graph.steps 0 c.in_ok-survey.graph.ends in
    let sorted = c.in_ok-clear.ensures in
    let done = c.in_ok-survey-2.ensures in
    let r = rw c.deref.ensures.value at c.in_ok-survey.ensures in
    survey-done r.reach c.in_ok-survey-2.survey
    done.places c.in_ok-clear.clear done.clear
    (ap (map view_shape) done.shapes ∙ r.are_shapes)
    (done.right shapes r.found (nodes-of r.reach c.in_ok-survey.survey.shapes.items c.in_ok-clear.clear r.are_shapes
    sorted)) sorted
