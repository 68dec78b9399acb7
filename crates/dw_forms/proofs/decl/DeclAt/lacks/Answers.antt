use Rattle.std.proofs.Common.{false, true, sym, arith}
use Rattle.dw_forms.specs.KeptDecls.{decl_view}
use Rattle.dw_forms.proofs.OwnBits.{clear_bit, own_bit_set, lacks_is}
use Rattle.dw_forms.proofs.decl.DeclAt.lacks.Goals as goal

pub returns-then-self-mask_of-eq0 : goal.returns-then-self-mask_of-eq0
returns-then-self-mask_of-eq0 c =
    let a = c.args.self.now in
    lacks_is c.args.attribute (decl_view a).attributes false
    (sym (clear_bit a.kept.now.bits c.mask_of.result c.args.attribute (decl_view a).attributes a.list.bits_are
    c.mask_of.ensures c.if-self-mask_of-eq0.true))

pub returns-then-bit_of-lt-OWN_BITS : goal.returns-then-bit_of-lt-OWN_BITS
returns-then-bit_of-lt-OWN_BITS c =
    let a = c.args.self.now in
    lacks_is c.args.attribute (decl_view a).attributes true
    (sym (own_bit_set a.kept.now.bits c.mask_of.result c.args.attribute (decl_view a).attributes a.list.bits_are
    c.mask_of.ensures (omega (arith, c.bit_of.ensures.same, c.if-bit_of-lt-OWN_BITS.true))
    c.if-self-mask_of-eq0.false))
