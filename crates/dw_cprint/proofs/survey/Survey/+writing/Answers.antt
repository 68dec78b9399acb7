use Rattle.std.proofs.Common.{◌≡◌, [], ◌∷◌, Bool, List, Some, None, refl, ap, sym, ◌∙◌, subst, get_or, map, rules}
use Rattle.std.proofs.lemmas.List.{drop_more, drop_all, get_or_read}
use Rattle.dw_cprint.specs.Declarations.{term_at, term_by}
use Rattle.dw_cprint.specs.Declarators.{before, core, gap, pointer_row}
use Rattle.dw_cprint.specs.Kept.{kept, kept_term, Writes, WritesBody, WritesEnumerators, WritesOf, WritesParameters}
use Rattle.dw_cprint.specs.Shapes.{Qualifier, Parameter, Typed, MemberOf, BodyOf, aggregate, ShapeOf, function, view_body, view_name, view_shape, view_member}
use Rattle.dw_cprint.specs.Terms.{Term}
use Rattle.dw_cprint.specs.declared.shape.Member.{Member}
use Rattle.dw_cprint.specs.declared.words.Text.{Text}
use Rattle.dw_cprint.specs.Tokens.{VoidWord}
use Rattle.dw_cprint.specs.Writing.{qualifying}
use Rattle.dw_cprint.proofs.WriterLemmas.{both, as_tokens, step-at, void-at, pointer_before, array_before, specifier_before, array_after, prototype_after, named_written, base_core, body_core, pointer_after, specifier-shape, some-mapped}
use Rattle.dw_cprint.proofs.ItemWriterLemmas.{IsLeft, next-of, members_left, members_next, parameters_left, parameters_next, parameters_done, members_done, enumeration_done}
use Rattle.std.proofs.lemmas.Result.{on_ok_weaker}
use Rattle.dw_cprint.proofs.survey.Survey.+writing.Goals as goal

pub put_after-returns-in_ok-write-in-Array : goal.put_after-returns-in_ok-write-in-Array
put_after-returns-in_ok-write-in-Array t c =
    let seen = c.in-Some-shape_within in
    let step = step-at _ _ _ c.get.ensures c.in-Some.is seen.ensures.found (ap view_shape c.in-Array.is) in
    on_ok_weaker _
    (array_after (term_at seen.below (kept c.args.self.now)) _ _ _ _ _ c.in-Array.strange c.in-Array.element step
    c.in_ok-write-in-Array.ensures)
    c.put_after-in-Array.ensures

pub put_after-returns-in_ok-put-in-Function-default-Some-2 : goal.put_after-returns-in_ok-put-in-Function-default-Some-2
put_after-returns-in_ok-put-in-Function-default-Some-2 t c =
    let seen = c.in-Some-shape_within in
    let f = c.in-Function-default-Some in
    let shape : view_shape seen.shape.now ≡ function f.returned (Some f.parameters.items) = search rules in
    let same : c.deref.result.now ≡ f.parameters.items = search rules in
    let P : List Parameter → Type 0 = λ us. WritesParameters c.args.self.now seen.below us
    c.put-in-Function-default-Some.new.out.items c.put_parameters.new.out.items in
    on_ok_weaker _
    (prototype_after (term_at seen.below (kept c.args.self.now)) _ _ _ _ _ _ f.returned f.parameters.items
    (step-at _ _ _ c.get.ensures c.in-Some.is seen.ensures.found shape) c.in_ok-put-in-Function-default-Some.ensures
    (subst P same c.in_ok-put_parameters-in-Function-default-Some.ensures)
    c.in_ok-put-in-Function-default-Some-2.ensures)
    c.put_after-in-Function-default-Some.ensures

pub put_after-returns-in_ok-put_closed-in-Pointer : goal.put_after-returns-in_ok-put_closed-in-Pointer
put_after-returns-in_ok-put_closed-in-Pointer t c =
    let seen = c.in-Some-shape_within in
    let step = step-at _ _ _ c.get.ensures c.in-Some.is seen.ensures.found (ap view_shape c.in-Pointer.is) in
    on_ok_weaker _ (pointer_after (term_at seen.below (kept c.args.self.now)) _ _ _ _ c.in-Pointer.to step
    (c.in_ok-put_closed-in-Pointer.ensures seen.below)) c.put_after-in-Pointer.ensures

pub put_before-returns-in_default : goal.put_before-returns-in_default
put_before-returns-in_default t c =
    let row = as_tokens _ _ _ _ (ap qualifying c.deref.ensures.value) c.in_ok-put_qualifiers.ensures in
    let P : Term → Type 0 = λ u. Writes (before c.args.qualifiers.items u c.args.inside) c.args.out.now.items
    c.put_gap.new.out.items in
    let done : Writes (gap c.args.inside) c.put.new.out.items c.put_gap.new.out.items
    → WritesOf (kept_term c.args.self.now c.args.depth c.args.at)
    (λ (u : Term). before c.args.qualifiers.items u c.args.inside) c.args.out.now.items c.put_gap.new.out.items
    = λ end u e.
    subst P (void-at (kept c.args.self.now) c.args.depth c.args.at u (sym c.get.ensures ∙ c.in_default.is) e)
    (both (qualifying c.args.qualifiers.items) (VoidWord ∷ gap c.args.inside) _ _ _ row
    (both (VoidWord ∷ []) (gap c.args.inside) _ _ _ c.in_ok-put.ensures end)) in
    on_ok_weaker _ done c.put_gap.ensures

pub put_before-returns-in_ok-put-in-Pointer : goal.put_before-returns-in_ok-put-in-Pointer
put_before-returns-in_ok-put-in-Pointer t c =
    let s = c.args.self.now in
    let seen = c.in-Some-shape_within in
    let step = step-at _ _ _ c.get.ensures c.in-Some.is seen.ensures.found (ap view_shape c.in-Pointer.is) in
    let R : List Qualifier → Type 0 = λ us. Writes (pointer_row us c.args.inside) c.put-in-Pointer.new.out.items
    c.put_joined.new.out.items in
    on_ok_weaker _
    (λ row. pointer_before (term_at seen.below (kept s)) _ _ _ _ _ _ c.args.qualifiers.items c.args.inside
    c.in-Pointer.to step
    (rw c.new.ensures.items at c.in_ok-put_before-in-Pointer.ensures)
    (c.in_ok-put_opened-in-Pointer.ensures seen.below) c.in_ok-put-in-Pointer.ensures
    (subst R c.deref-in-Pointer.ensures.value row))
    c.put_joined.ensures

pub put_before-returns-in-Array : goal.put_before-returns-in-Array
put_before-returns-in-Array t c =
    let seen = c.in-Some-shape_within in
    let a = c.in-Array in
    let step = step-at _ _ _ c.get.ensures c.in-Some.is seen.ensures.found (ap view_shape a.is) in
    on_ok_weaker _
    (array_before (term_at seen.below (kept c.args.self.now)) _ _ _ c.args.qualifiers.items c.args.inside a.dimensions
    a.strange a.element step)
    (rw c.new-in-Array.ensures.items at c.put_before-in-Array.ensures)

pub put_before-returns-in_ok-put_core-in_default-shape : goal.put_before-returns-in_ok-put_core-in_default-shape
put_before-returns-in_ok-put_core-in_default-shape t c =
    let seen = c.in-Some-shape_within in
    let d = c.in_default-shape in
    let same : view_shape seen.shape.now ≡ view_shape seen.shape.now = refl in
    let step = step-at _ _ seen.below c.get.ensures c.in-Some.is seen.ensures.found same in
    let row = as_tokens _ _ _ _ (ap qualifying c.deref-in_default-shape.ensures.value)
    c.in_ok-put_qualifiers-in_default-shape.ensures in
    on_ok_weaker _
    (specifier_before (term_at seen.below (kept c.args.self.now)) _ _ _ _ _ c.args.qualifiers.items c.args.inside
    (view_shape seen.shape.now) (specifier-shape seen.shape.now d.not-Qualified d.not-Pointer d.not-Array
    d.not-Function) step row c.in_ok-put_core-in_default-shape.ensures)
    c.put_gap-in_default-shape.ensures

pub put_core-returns-in-Base : goal.put_core-returns-in-Base
put_core-returns-in-Base t c =
    let P : ShapeOf → Type 0 = λ shape. WritesOf (term_by (kept_term c.args.self.now c.args.depth) shape) core
    c.args.out.now.items c.put_name.new.out.items in
    on_ok_weaker _ (λ word. subst P (sym (ap view_shape c.in-Base.is))
    (base_core (term_at c.args.depth (kept c.args.self.now)) _ _ (view_name c.in-Base.name) word))
    c.put_name.ensures

pub put_body-returns-in-Aggregate : goal.put_body-returns-in-Aggregate
put_body-returns-in-Aggregate t c =
    let b = c.in-Aggregate in
    let P : BodyOf → Type 0 = λ x. WritesBody c.args.self.now c.args.depth (view_name c.args.name) x
    c.args.out.now.items c.put_aggregate.new.out.items in
    let done : ((odd : Bool) → P (aggregate b.word odd (map view_member c.deref.result.now)))
    → P (view_body c.args.body.now) = λ written.
    subst P (ap (λ (ms : List Member). aggregate b.word b.odd (map view_member ms)) c.deref.ensures.value
    ∙ sym (ap view_body b.is)) (written b.odd) in
    on_ok_weaker _ done c.put_aggregate.ensures

pub put_body-returns-in_ok-put_front-in-Enumeration : goal.put_body-returns-in_ok-put_front-in-Enumeration
put_body-returns-in_ok-put_front-in-Enumeration t c =
    let b = c.in-Enumeration in
    let P : BodyOf → Type 0 = λ x. WritesBody c.args.self.now c.args.depth (view_name c.args.name) x
    c.args.out.now.items c.write.new.out.items in
    let done : WritesEnumerators b.enumerators c.put_front.new.out.items c.write.new.out.items
    → P (view_body c.args.body.now) = λ inner.
    subst P (sym (ap view_body b.is)) (enumeration_done (kept_term c.args.self.now c.args.depth)
    (view_name c.args.name) b.odd b.enumerators _ _ _ c.in_ok-put_front-in-Enumeration.ensures inner) in
    on_ok_weaker _ done c.write.ensures

pub put_core-returns-in-Body : goal.put_core-returns-in-Body
put_core-returns-in-Body t c =
    let P : ShapeOf → Type 0 = λ shape. WritesOf (term_by (kept_term c.args.self.now c.args.depth) shape) core
    c.args.out.now.items c.put_body.new.out.items in
    on_ok_weaker _
    (λ inner. subst P (sym (ap view_shape c.in-Body.is))
    (body_core (term_at c.args.depth (kept c.args.self.now)) _ _ (view_body c.in-Body.body) inner))
    c.put_body.ensures

pub put_named-returns : goal.put_named-returns
put_named-returns t c =
    let P : List Qualifier → Bool → Type 0 = λ us b. WritesOf (kept_term c.args.self.now c.args.depth c.args.at)
    (λ (t : Term). before us t b) c.args.out.now.items c.put_before.new.out.items in
    let some = c.is_some.ensures ∙ some-mapped (λ (text : Text). text.bytes.now) c.args.name in
    let front = subst (P []) some (subst (λ (us : List Qualifier). P us c.is_some.result) c.new.ensures.items
    c.in_ok-put_before.ensures) in
    on_ok_weaker _ (named_written (term_at c.args.depth (kept c.args.self.now)) c.args.at (view_name c.args.name) _ _ _
    _
    front c.in_ok-put_name.ensures) c.put_after.ensures

pub put_aggregate-loop-member-preserved : goal.put_aggregate-loop-member-preserved
put_aggregate-loop-member-preserved t c = search (rules, members_left, members_next, next-of)

pub put_parameters-loop-parameter-preserved : goal.put_parameters-loop-parameter-preserved
put_parameters-loop-parameter-preserved t c =
    let others = c.in-Some.others.now in
    let i = c.loop-parameter.parameter-index in
    let P : List Parameter → Type 0 = λ left. IsLeft (parameters_left (term_at c.args.depth (kept c.args.self.now)))
    others c.put_parameter.new.out.items left c.loop-parameter.out.items in
    let within = c.loop-parameter-test.true in
    let item = get_or_read others i c.parameter-item.result within c.parameter-item.is (Typed None) in
    parameters_next c.args.self.now c.args.depth _ (get_or others i (Typed None)) _ _ _ _ _
    (subst P (drop_more others i (Typed None) within) c.loop-parameter.invariant)
    c.in_ok-put.ensures (rw item at c.in_ok-put_parameter-2.ensures)

pub put_parameters-returns : goal.put_parameters-returns
put_parameters-returns t c =
    let s = c.args.self.now in
    let others = c.in-Some.others.now in
    let P : List Parameter → Type 0 = λ left. IsLeft (parameters_left (term_at c.args.depth (kept s))) others
    c.put_parameter.new.out.items left c.loop-parameter.out.items in
    let Q : List Parameter → Type 0 = λ ps. WritesParameters s c.args.depth ps c.args.out.now.items
    c.loop-parameter.out.items in
    subst Q (sym c.in-Some.ensures.cases.0)
    (parameters_done s c.args.depth c.in-Some.first.now others _ _ _ c.in_ok-put_parameter.ensures
    (subst P (drop_all c.loop-parameter.parameter-index others c.loop-parameter-test.false) c.loop-parameter.invariant))

pub put_aggregate-returns : goal.put_aggregate-returns
put_aggregate-returns t c = λ odd.
    let term = term_at c.args.depth (kept c.args.self.now) in
    let P : List MemberOf → Type 0 = λ left. IsLeft (members_left term) (map view_member c.args.members.now)
    c.put.new.out.items left c.loop-member.out.items in
    let none = ap (map view_member) (drop_all c.loop-member.member-index c.args.members.now c.loop-member-test.false) in
    members_done term c.args.word (view_name c.args.name) odd _ _ _ _ _ _ c.in_ok-put_front.ensures c.in_ok-put.ensures
    (subst P none c.loop-member.invariant) c.in_ok-put-2.ensures
