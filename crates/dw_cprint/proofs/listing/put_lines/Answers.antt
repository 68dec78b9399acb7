use Rattle.std.proofs.Common.{◌≡◌, ◌++◌, ◌∷◌, ℕ, List, map, get_or, arith, sym, ap, ◌∙◌, subst, append-nil, append_assoc}
use Rattle.std.specs.Prelude.{All, flat_map}
use Rattle.std.proofs.lemmas.List.{get_or_read}
use Rattle.std.proofs.lemmas.List.Elements.{All-head, All-rest}
use Rattle.dw_image.specs.declared.image.Image.{Image}
use Rattle.dw_cprint.specs.EntryShapes.{shape_in, subject_in}
use Rattle.dw_cprint.specs.Judgements.{IsPrintedNumber}
use Rattle.dw_cprint.specs.Listings.{declared_line, named_steps}
use Rattle.dw_cprint.specs.Refusals.{IsPrinted}
use Rattle.dw_cprint.specs.Steps.{first_steps}
use Rattle.dw_cprint.specs.Summaries.{AreAmong}
use Rattle.dw_cprint.proofs.JudgementLemmas.{steps-among}
use Rattle.dw_cprint.proofs.ListingLemmas.{entry-there, kept-there}
use Rattle.dw_cprint.proofs.RefusalLemmas.{writes-line}
use Rattle.dw_cprint.proofs.listing.put_lines.Goals as goal

-- the first of those that are left is printed
printed-next : (image : Image) (named : List ℕ) {left rest : List ℕ} {number : ℕ} → left ≡ number ∷ rest
    → All (IsPrintedNumber image named) left → IsPrintedNumber image named number
printed-next image named is printed = All-head (IsPrintedNumber image named) _ _ (rw is at printed)

pub index-id-requires : goal.index-id-requires
index-id-requires c =
    let known = printed-next _ _ c.in-Some.ensures.steps c.loop-number.invariant.printed in
    omega (arith, known.0)

pub index-name-requires : goal.index-name-requires
index-name-requires c =
    let known = printed-next _ _ c.in-Some.ensures.steps c.loop-number.invariant.printed in
    omega (arith, known.0, c.requires.names.long)

pub index-kind-requires : goal.index-kind-requires
index-kind-requires c =
    let known = printed-next _ _ c.in-Some.ensures.steps c.loop-number.invariant.printed in
    omega (arith, known.0, c.requires.kinds.long)

pub put_named_type-requires-clause-id : goal.put_named_type-requires-clause-id
put_named_type-requires-clause-id c =
    let known = printed-next _ _ c.in-Some.ensures.steps c.loop-number.invariant.printed in
    (entry-there _ c.index-id.result.now c.requires.named known.0 c.index-id.ensures).0

pub put_named_type-requires-clause-name : goal.put_named_type-requires-clause-name
put_named_type-requires-clause-name c =
    let known = printed-next _ _ c.in-Some.ensures.steps c.loop-number.invariant.printed in
    kept-there _ c.index-id.result.now
    c.index-name.result.now c.requires.names known.0 c.index-id.ensures c.index-name.ensures

pub put_named_type-requires-clause-kind : goal.put_named_type-requires-clause-kind
put_named_type-requires-clause-kind c =
    let known = printed-next _ _ c.in-Some.ensures.steps c.loop-number.invariant.printed in
    kept-there _ c.index-id.result.now
    c.index-kind.result.now c.requires.kinds known.0 c.index-id.ensures c.index-kind.ensures

pub loop-number-preserved : goal.loop-number-preserved
loop-number-preserved c =
    let image = c.args.source.now.image.now in
    let named = c.args.named.now.ids.items in
    let number = c.in-Some.number.now in
    let entry = c.index-id.result.now in
    let out = c.loop-number.out.items in
    let left = c.next.new.self in
    let line : ℕ → List ℕ = declared_line image in
    let lines : List ℕ → List ℕ = λ numbers. flat_map line (map (λ k. get_or named k 0) numbers) in
    let known = printed-next _ _ c.in-Some.ensures.steps c.loop-number.invariant.printed in
    let at : entry ≡ get_or named number 0 = get_or_read named number entry known.0 c.index-id.ensures 0 in
    let P : ℕ → Type 0 = λ x. IsPrinted (shape_in image) (subject_in image x) in
    let among : AreAmong (first_steps (subject_in image entry)) (named_steps image named) =
    rw at (steps-among (λ id. first_steps (subject_in image id)) named number known.0) in
    let written = writes-line (shape_in image) (subject_in image entry) (named_steps image named) c.args.survey.now out
    c.put_named_type.new.out.items c.push.new.self.items c.requires.survey among (subst P (sym at) known.1)
    c.in_ok-put_named_type.ensures c.in_ok-push.ensures.items in
    record {
      printed =
          All-rest (IsPrintedNumber image named) _ _ _ c.in-Some.ensures.steps c.loop-number.invariant.printed;
      so_far =
          ap (λ (u : List ℕ). u ++ lines left) (written ∙ ap (λ (x : ℕ). out ++ line x) at)
          ∙ append_assoc out (line (get_or named number 0)) (lines left)
          ∙ (rw c.in-Some.ensures.steps at c.loop-number.invariant.so_far);
    }

pub returns : goal.returns
returns c =
    sym (append-nil c.loop-number.out.items) ∙ (rw c.in-None.ensures.steps.0 at c.loop-number.invariant.so_far)
