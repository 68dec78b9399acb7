use Rattle.std.proofs.Common.{arith}
use Rattle.dw_cprint.specs.Declarations.{term_at}
use Rattle.dw_cprint.specs.Shapes.{view_shape}
use Rattle.dw_cprint.specs.Steps.{types_reached}
use Rattle.dw_cprint.specs.Summaries.{known_of}
use Rattle.dw_cprint.proofs.FoundLemmas.{found-shape}
use Rattle.dw_cprint.proofs.LengthLemmas.{shape-length, same-length}
use Rattle.dw_cprint.proofs.SummaryLemmas.{entry_summary, knows-lengths}
use Rattle.dw_cprint.proofs.summary.summary_of.Goals as goal

pub returns : goal.returns
returns c = λ shapes entry is known.
    let s = c.args.survey.now in
    let shape = view_shape c.args.shape.now in
    let rest = (rw c.requires at (c.findings_under.ensures shapes)) known in
    let both = c.with-all.ensures.either in
    entry_summary shapes entry shape _ is c.kind_of.ensures (c.base_of.ensures.under shapes entry is known)
    (found-shape shapes s entry c.wrong_in_shape.result c.findings_under.result _ (rw (← is) at known)
    (rw (← is) at c.wrong_in_shape.ensures) (rw (← is) at rest)
    (record { bad_name = both.bad_name; foreign_type = both.foreign_type; unspeakable = both.unspeakable })
    (omega (arith, c.wrong_in_shape.ensures.shallow, c.with-all.ensures.depth, c.saturating_add.ensures)))
    (λ k t e. same-length t _ _ _ _ _ _ c.kind_of.ensures c.base_of.ensures.same c.length_of.ensures
    (shape-length (term_at k shapes) (known_of s) shape t (knows-lengths shapes s k (types_reached shape) known) e))
