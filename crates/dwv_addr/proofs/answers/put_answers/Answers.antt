use Rattle.std.proofs.Common.{Option, None, List, ℕ, ◌++◌, get_or, ap, sym, ◌∙◌, append_assoc, subst, take, arith}
use Rattle.std.proofs.lemmas.List.{take_all, take_more}
use Rattle.dwv_addr.specs.Located.{AreAnswers}
use Rattle.dwv_addr.proofs.LocatedLemmas.{answers_more}
use Rattle.dwv_addr.proofs.answers.put_answers.Goals as goal

pub loop-question-preserved : goal.loop-question-preserved
loop-question-preserved c =
    let a = c.args in
    let known = a.known.now in
    let l = c.loop-question in
    let k = l.question-index in
    let asked = a.asked.now in
    let question = get_or asked k None in
    let (before, so_far, are) = l.invariant in
    let (more, appended, is) = c.in_ok-put_answer.ensures in (
      before ++ more,
      appended ∙ ap (λ (t : List ℕ). t ++ more) so_far ∙ append_assoc a.text.now.items before more,
      λ units index.
          subst (λ (xs : List (Option ℕ)). AreAnswers a.json known units xs
          (before ++ more)) (sym (take_more asked k None c.loop-question-test.true))
          (answers_more a.json known units (take k asked) question before more
          (are units index) (is units index)),
    )

pub returns : goal.returns
returns c =
    let l = c.loop-question in
    let (answer, so_far, are) = l.invariant in (
      answer,
      so_far,
      λ units index.
          subst (λ (xs : List (Option ℕ)). AreAnswers c.args.json c.args.known.now units xs answer)
          (take_all l.question-index c.args.asked.now (omega (arith, c.loop-question-test.false))) (are units index),
    )
