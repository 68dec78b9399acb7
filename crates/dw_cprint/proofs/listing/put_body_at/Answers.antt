use Rattle.std.proofs.Common.{rules, ◌≡◌, ◌∙◌, Bool, List, Some, ap, map, subst, sym}
use Rattle.dw_cprint.specs.EntryShapes.{body_in, enumerators_in, is_odd}
use Rattle.dw_cprint.specs.Kept.{kept_term, WritesBody, WritesEnumerators}
use Rattle.dw_cprint.specs.Shapes.{BodyOf, Enum, Name, aggregate, view_member}
use Rattle.dw_cprint.specs.declared.shape.Member.{Member}
use Rattle.dw_cprint.proofs.ItemWriterLemmas.{enumeration_done}
use Rattle.std.proofs.lemmas.Result.{on_ok_weaker}
use Rattle.dw_cprint.proofs.listing.put_body_at.Goals as goal

pub returns-in_ok-members-in-OfAggregate : goal.returns-in_ok-members-in-OfAggregate
returns-in_ok-members-in-OfAggregate c =
    let image = c.args.source.now.image.now in
    let word = c.in-OfAggregate.word in
    let odd = is_odd image c.args.id in
    let P : BodyOf → Type 0 = λ b. WritesBody c.args.survey.now 65 (Some c.args.name.bytes.now) b
    c.args.out.now.items c.put_aggregate.new.out.items in
    let done : ((odd : Bool) → P (aggregate word odd (map view_member c.deref.result.now)))
    → P (body_in image c.args.id c.args.word) = λ written.
    subst P (ap (λ (ms : List Member). aggregate word odd (map view_member ms)) c.deref.ensures.value
    ∙ ap (aggregate word odd) c.in_ok-members-in-OfAggregate.ensures
    ∙ sym (ap (body_in image c.args.id) c.in-OfAggregate.is)) (written odd) in
    on_ok_weaker _ done c.put_aggregate.ensures

pub returns-in_ok-put_front-in-Enum : goal.returns-in_ok-put_front-in-Enum
returns-in_ok-put_front-in-Enum c =
    let image = c.args.source.now.image.now in
    let name : Name = Some c.args.name.bytes.now in
    let word : c.args.word ≡ Enum = search rules in
    let P : BodyOf → Type 0 = λ b. WritesBody c.args.survey.now 65 name b
    c.args.out.now.items c.put_all.new.out.items in
    let done : WritesEnumerators (enumerators_in image c.args.id) c.put_front.new.out.items c.put_all.new.out.items
    → P (body_in image c.args.id c.args.word) = λ inner.
    subst P (sym (ap (body_in image c.args.id) word)) (enumeration_done (kept_term c.args.survey.now 65) name
    (is_odd image c.args.id) (enumerators_in image c.args.id) _ _ _ c.in_ok-put_front-in-Enum.ensures inner) in
    on_ok_weaker _ done c.put_all.ensures
