use Rattle.std.proofs.Common.{[], ◌∷◌, None, refl, ◌∙◌, ap, get_or, take, arith}
use Rattle.std.proofs.lemmas.List.{get_or_read, take_all, take_more}
use Rattle.dw_cprint.specs.Summaries.{known_of}
use Rattle.dw_cprint.proofs.FoundLemmas.{found-none, found-join, same-summary}
use Rattle.dw_cprint.proofs.summary.findings_under.Goals as goal

pub loop-at-init : goal.loop-at-init
loop-at-init c = λ shapes known. found-none shapes _ refl refl refl refl

pub loop-at-preserved : goal.loop-at-preserved
loop-at-preserved c = λ shapes known.
    let types = c.args.types.now in
    let i = c.loop-at.at-index in
    let item = get_or_read types i c.at-item.result (omega arith) c.at-item.is None in
    let mine = same-summary (c.known.ensures ∙ ap (known_of c.args.survey.now) item) (known i None (omega arith)) in
    rw (take_more types i None (omega arith))
    (found-join shapes (take i types) (get_or types i None ∷ []) c.loop-at.findings c.known.result.findings
    c.with-findings.result (c.loop-at.invariant shapes known) mine.are_found c.with-findings.ensures.either
    c.with-findings.ensures.depth)

pub returns : goal.returns
returns c = λ shapes known.
    rw (take_all c.loop-at.at-index c.args.types.now c.loop-at-test.false) at (c.loop-at.invariant shapes known)
