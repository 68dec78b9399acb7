use Rattle.std.proofs.Common.{◌≡◌, ℕ, suc, Some, ap, sym, ◌∙◌, arith}
use Rattle.dw_cprint.specs.Declarations.{term_at, term_by}
use Rattle.dw_cprint.specs.Kept.{kept}
use Rattle.dw_cprint.proofs.survey.Survey.shape_within.Goals as goal

pub returns-clause-found : goal.returns-clause-found
returns-clause-found c =
    let shapes = kept c.args.self.now in
    let more : suc c.in_ok-below.below ≡ c.args.depth = omega (arith, c.in_ok-below.ensures) in
    ap (λ (k : ℕ). term_at k shapes (Some c.args.entry)) (sym more)
    ∙ ap (term_by (term_at c.in_ok-below.below shapes)) (sym c.in_ok-shape.ensures)
