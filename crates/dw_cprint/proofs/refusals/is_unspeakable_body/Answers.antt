use Rattle.std.proofs.Common.{◌≡◌, Bool, false, ap, map, sym, ◌∙◌, rules, tests}
use Rattle.std.specs.Prelude.{◌||◌}
use Rattle.std.specs.List.{list_any}
use Rattle.std.proofs.lemmas.Iterator.{YieldsList-from_slice}
use Rattle.std.proofs.lemmas.Iterator.Search.{any_from_yields_List}
use Rattle.dw_cprint.specs.Shapes.{body, view_body, view_member}
use Rattle.dw_cprint.specs.Steps.{member_types, types_reached}
use Rattle.dw_cprint.specs.Summaries.{has_void, is_unspeakable, kind_known}
use Rattle.dw_cprint.specs.Wrong.{is_wrong_member}
use Rattle.dw_cprint.specs.declared.shape.Body.{Body}
use Rattle.dw_cprint.specs.declared.shape.Member.{Member}
use Rattle.dw_cprint.proofs.FaultLemmas.{seen_any}
use Rattle.dw_cprint.proofs.refusals.is_unspeakable_body.Goals as goal

pub returns-else-has_void : goal.returns-else-has_void
returns-else-has_void c =
    let s = c.args.survey.now in
    let b = c.in-Aggregate in
    let wrong = is_wrong_member (kind_known s) in
    let void : has_void s (member_types (map view_member b.members.items)) ≡ false =
    ap (λ (x : Body). has_void s (types_reached (body (view_body x)))) (sym b.is) ∙ ap (has_void s) (sym c.requires)
    ∙ sym c.has_void.ensures ∙ c.if-has_void.false in
    seen_any wrong view_member _ _ c.any.result
    (any_from_yields_List (λ (m : Member). wrong (view_member m)) _ _ _
    c.any.ensures.ran (YieldsList-from_slice c.deref.result.now cc) (λ x b q k. search (rules, tests)))
    c.deref.ensures.value
    ∙ ap (λ (x : Bool). x || list_any wrong (map view_member b.members.items)) (sym void)
    ∙ sym (ap (λ (x : Body). is_unspeakable s (body (view_body x))) b.is)
