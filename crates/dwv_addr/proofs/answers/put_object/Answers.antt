use Rattle.std.proofs.Common.{List, ap, ◌∙◌}
use Rattle.serde_json.specs.Data.{Data}
use Rattle.serde_json.specs.View.{items_of}
use Rattle.serde_json.specs.Written.{items_have_float}
use Rattle.dwv_addr.proofs.LocatedLemmas.{no_float_frames}
use Rattle.dwv_addr.proofs.answers.put_object.Goals as goal

pub put_answer_object-requires : goal.put_answer_object-requires
put_answer_object-requires c =
    let known = c.args.known.now in
    ap (λ (ds : List Data). items_have_float (items_of ds)) c.in_ok-values.ensures
    ∙ no_float_frames known c.args.unit c.args.frames.now
