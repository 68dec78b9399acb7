use Rattle.std.proofs.Common.{ap, sym, subst}
use Rattle.dw_cprint.specs.Declarations.{declaration_of, term_at}
use Rattle.dw_cprint.specs.Kept.{kept, WritesDeclaration}
use Rattle.dw_cprint.specs.Shapes.{SubjectOf, view_body, view_name, view_subject}
use Rattle.dw_cprint.proofs.WriterLemmas.{typedef_done, variable_done, defined_done}
use Rattle.std.proofs.lemmas.Result.{on_ok_weaker}
use Rattle.dw_cprint.proofs.survey.Survey.put_declaration.Goals as goal

pub returns-in_ok-put_named-in-Typedef : goal.returns-in_ok-put_named-in-Typedef
unfolding declaration_of
returns-in_ok-put_named-in-Typedef c =
    let P : SubjectOf → Type 0 = λ subject. WritesDeclaration c.args.self.now subject c.args.out.now.items
    c.put-in-Typedef.new.out.items in
    on_ok_weaker _
    (λ last. subst P (sym (ap view_subject c.in-Typedef.is))
    (typedef_done (term_at 65 (kept c.args.self.now)) _ _ _ _ (view_name c.in-Typedef.name) c.in-Typedef.at
    c.in_ok-put-in-Typedef.ensures c.in_ok-put_named-in-Typedef.ensures last))
    c.put-in-Typedef.ensures

pub returns-in_ok-put_named-in-Variable : goal.returns-in_ok-put_named-in-Variable
unfolding declaration_of
returns-in_ok-put_named-in-Variable c =
    let P : SubjectOf → Type 0 = λ subject. WritesDeclaration c.args.self.now subject c.args.out.now.items
    c.put-in-Variable.new.out.items in
    on_ok_weaker _
    (λ last. subst P (sym (ap view_subject c.in-Variable.is))
    (variable_done (term_at 65 (kept c.args.self.now)) _ _ c.put_named-in-Variable.new.out.items _
    (view_name c.in-Variable.name) c.in-Variable.at c.in_ok-put_named-in-Variable.ensures last))
    c.put-in-Variable.ensures

pub returns-in_ok-put_body-in-Defined : goal.returns-in_ok-put_body-in-Defined
unfolding declaration_of
returns-in_ok-put_body-in-Defined c =
    let P : SubjectOf → Type 0 = λ subject. WritesDeclaration c.args.self.now subject c.args.out.now.items
    c.put-in-Defined.new.out.items in
    on_ok_weaker _
    (λ last. subst P (sym (ap view_subject c.in-Defined.is))
    (defined_done (term_at 65 (kept c.args.self.now)) _ _ c.put_body.new.out.items _
    (view_name c.in-Defined.name) (view_body c.in-Defined.body) c.in_ok-put_body-in-Defined.ensures last))
    c.put-in-Defined.ensures
