use Rattle.std.proofs.Common.{◌≡◌, ◌++◌, ap, ◌∙◌, subst, sym}
use Rattle.dwv_addr.specs.Located.{AreAnswers}
use Rattle.dwv_addr.specs.Reports.{status_if}
use Rattle.dwv_addr.proofs.ReportLemmas.{answers_report, counts_report}
use Rattle.dwv_addr.proofs.reporting.answer_of_sound.Goals as goal

pub returns-in_ok-text-in-Check : goal.returns-in_ok-text-in-Check
returns-in_ok-text-in-Check c = λ units _.
    counts_report c.args.known.now units c.args.asked.now c.args.request c.in-Check.json c.counts_of-counts.result
    c.in_ok-text-in-Check.text.items c.in-Check.is c.in_ok-text-in-Check.ensures c.counts_of-counts.ensures

pub returns-in_ok-put_answers-in-Find : goal.returns-in_ok-put_answers-in-Find
returns-in_ok-put_answers-in-Find c = λ units index.
    let written = c.in_ok-put_answers-in-Find.ensures in
    let text : c.put_answers.new.text.items ≡ written.0 =
    written.1 ∙ ap (λ xs. xs ++ written.0) c.new-text.ensures.items in
    answers_report c.args.known.now units c.args.asked.now c.args.request c.in-Find.json c.status_of-status.result
    c.put_answers.new.text.items c.in-Find.is (c.status_of-status.ensures ∙ ap status_if c.are_addresses.ensures)
    (subst (AreAnswers c.in-Find.json c.args.known.now units c.args.asked.now) (sym text) (written.2 units index))
