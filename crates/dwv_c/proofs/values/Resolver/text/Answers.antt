use Rattle.std.proofs.Common.{◌≡◌, ℕ, suc, ◌+◌, ◌-◌, Some, length, refl, ap, arith}
use Rattle.dw_links.specs.declared.texts.TextPlace.TheVariants.{Info}
use Rattle.dw_forms.specs.Value.{text}
use Rattle.dwv_c.proofs.MeaningLemmas.{text_means}
use Rattle.dwv_c.proofs.values.Resolver.text.Goals as goal

pub returns : goal.returns
returns c =
    let longer : suc (length c.args.bytes.now) ≡ length c.args.bytes.now + 1 = omega arith in
    text_means c.args.self.now.holders c.args.self.now.image.now c.args.unit c.requires.unit
    c.args.end (text c.args.bytes.now) c.args.bytes.now _ _ refl
    (ap (λ (n : ℕ). Some (Info (c.args.end - n))) longer) c.text_in_info.ensures
