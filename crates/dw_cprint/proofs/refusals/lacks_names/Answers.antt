use Rattle.std.proofs.Common.{ap, sym, ◌∙◌, rules, tests}
use Rattle.std.proofs.lemmas.Iterator.{YieldsList-from_slice}
use Rattle.std.proofs.lemmas.Iterator.Search.{any_from_yields_List}
use Rattle.dw_cprint.specs.Shapes.{MemberOf, body, view_body, view_member, view_name}
use Rattle.dw_cprint.specs.Summaries.{kind_known}
use Rattle.dw_cprint.specs.Wrong.{has_bad_name, lacks_member_name}
use Rattle.dw_cprint.specs.declared.shape.Body.{Body}
use Rattle.dw_cprint.specs.declared.shape.Member.{Member}
use Rattle.dw_cprint.proofs.FaultLemmas.{seen_any}
use Rattle.dw_cprint.proofs.refusals.lacks_names.Goals as goal

pub returns-in-Aggregate : goal.returns-in-Aggregate
returns-in-Aggregate c =
    let kinds = kind_known c.args.survey.now in
    seen_any (λ (m : MemberOf). lacks_member_name (kinds m.type_at) m.bits m.name) view_member _ _ _
    (any_from_yields_List (λ (m : Member). lacks_member_name (kinds m.type_at) m.bits (view_name m.name)) _ _ _
    c.any.ensures.ran (YieldsList-from_slice c.deref.result.now cc) (λ x b q k. search (rules, tests)))
    c.deref.ensures.value
    ∙ sym (ap (λ (x : Body). has_bad_name kinds (body (view_body x))) c.in-Aggregate.is)
