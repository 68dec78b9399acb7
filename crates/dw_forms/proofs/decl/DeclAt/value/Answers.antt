use Rattle.std.proofs.Common.{rules, false, refl, sym}
use Rattle.dw_forms.specs.KeptDecls.{decl_view}
use Rattle.dw_forms.proofs.OwnBits.{clear_bit, set_bit, lacks_is}
use Rattle.dw_forms.proofs.SuffixLaws.{number_is_within}
use Rattle.dw_forms.proofs.decl.DeclAt.value.Goals as goal

pub returns-then-self-mask_of-eq0 : goal.returns-then-self-mask_of-eq0
returns-then-self-mask_of-eq0 c =
    let a = c.args.self.now in
    let lacks = lacks_is c.args.attribute (decl_view a).attributes false
    (sym (clear_bit a.kept.now.bits c.mask_of.result c.args.attribute (decl_view a).attributes a.list.bits_are
    c.mask_of.ensures c.if-self-mask_of-eq0.true)) in
    lacks.0 refl

pub place-place-requires-clause-some : goal.place-place-requires-clause-some
place-place-requires-clause-some c = set_bit _ _ _ c.mask_of.ensures c.if-self-mask_of-eq0.false

pub new-found-requires : goal.new-found-requires
new-found-requires c = search (rules, number_is_within)
