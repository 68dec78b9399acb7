use Rattle.std.proofs.Common.{◌≡◌, ◌<◌, length, arith, subst}
use Rattle.std.proofs.lemmas.List.{get_or_read}
use Rattle.dw_cprint.specs.EntryShapes.{subject_in}
use Rattle.dw_cprint.specs.Judgements.{IsRefusal}
use Rattle.dw_cprint.specs.Shapes.{SubjectOf}
use Rattle.dw_cprint.specs.Steps.{first_steps}
use Rattle.dw_cprint.specs.Summaries.{AreAmong, BySurvey}
use Rattle.dw_cprint.proofs.JudgementLemmas.{no-refusals, refusals-more, steps-among}
use Rattle.dw_cprint.proofs.ListingLemmas.{entry-there, kept-there}
use Rattle.dw_cprint.proofs.listing.refusals_of.Goals as goal

pub loop-k-init : goal.loop-k-init
loop-k-init c = rw c.in_ok-refusals.ensures.items (no-refusals c.args.source.now.image.now c.args.named.now.ids.items)

pub index-name-requires : goal.index-name-requires
index-name-requires c = omega (arith, c.requires.names.long, c.loop-k-test.true, c.len-k-end.ensures)

pub index-kind-requires : goal.index-kind-requires
index-kind-requires c = omega (arith, c.requires.kinds.long, c.loop-k-test.true, c.len-k-end.ensures)

pub subject_at-requires-clause-id : goal.subject_at-requires-clause-id
subject_at-requires-clause-id c =
    (entry-there c.loop-k.k c.index-id.result.now
    c.requires.named (omega (arith, c.loop-k-test.true, c.len-k-end.ensures)) c.index-id.ensures).0

pub subject_at-requires-clause-name : goal.subject_at-requires-clause-name
subject_at-requires-clause-name c =
    kept-there c.loop-k.k c.index-id.result.now c.index-name.result.now c.requires.names
    (omega (arith, c.loop-k-test.true, c.len-k-end.ensures)) c.index-id.ensures c.index-name.ensures

pub subject_at-requires-clause-kind : goal.subject_at-requires-clause-kind
subject_at-requires-clause-kind c =
    kept-there c.loop-k.k c.index-id.result.now c.index-kind.result.now c.requires.kinds
    (omega (arith, c.loop-k-test.true, c.len-k-end.ensures)) c.index-id.ensures c.index-kind.ensures

pub loop-k-preserved : goal.loop-k-preserved
loop-k-preserved c =
    let image = c.args.source.now.image.now in
    let named = c.args.named.now.ids.items in
    let id = c.index-id.result.now in
    let refusal = c.in_ok-refusal.refusal in
    let inside : c.loop-k.k < length named = omega (arith, c.loop-k-test.true, c.len-k-end.ensures) in
    let at = get_or_read named c.loop-k.k id inside c.index-id.ensures 0 in
    let among : AreAmong (first_steps (subject_in image id)) _ =
    rw at (steps-among (λ id. first_steps (subject_in image id)) named c.loop-k.k inside) in
    let B : SubjectOf → Type 0 = λ s. BySurvey c.args.survey.now (first_steps s) (λ shapes.
    IsRefusal shapes s refusal) in
    refusals-more image named c.loop-k.k id c.loop-k.refusals.items c.push.new.self.items refusal c.loop-k.invariant
    c.in_ok-push.ensures.items at
    (subst B c.in_ok-subject.ensures c.in_ok-refusal.ensures _ _ c.requires.survey among)

pub returns : goal.returns
returns c =
    let done : c.loop-k.k ≡ length c.args.named.now.ids.items =
    omega (arith, c.loop-k-test.false, c.loop-k.auto.k-end, c.len-k-end.ensures) in
    rw done at c.loop-k.invariant
