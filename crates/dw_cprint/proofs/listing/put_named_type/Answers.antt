use Rattle.std.proofs.Common.{rules, ◌≡◌, Some, subst}
use Rattle.dw_cprint.specs.Declarations.{declaration_of, term_at}
use Rattle.dw_cprint.specs.EntryShapes.{body_in, subject_in}
use Rattle.dw_cprint.specs.Kept.{kept, WritesDeclaration}
use Rattle.dw_cprint.specs.Shapes.{Name, SubjectOf, defined_subject}
use Rattle.dw_cprint.proofs.WriterLemmas.{defined_done}
use Rattle.std.proofs.lemmas.Result.{on_ok_weaker}
use Rattle.dw_cprint.proofs.listing.put_named_type.Goals as goal

pub returns-in_ok-put_body_at-in-Defined : goal.returns-in_ok-put_body_at-in-Defined
unfolding declaration_of
returns-in_ok-put_body_at-in-Defined c =
    let image = c.args.source.now.image.now in
    let s = c.args.survey.now in
    let old = c.args.out.now.items in
    let new = c.put.new.out.items in
    let body = body_in image c.args.id c.in-Defined.word in
    let name : Name = Some c.args.name.bytes.now in
    let same : defined_subject name body ≡ subject_in image c.args.id = search rules in
    on_ok_weaker _ (λ last. subst (λ (x : SubjectOf). WritesDeclaration s x old new) same
    (defined_done (term_at 65 (kept s)) _ _ c.put_body_at.new.out.items _ name body
    c.in_ok-put_body_at-in-Defined.ensures last)) c.put.ensures
