use Rattle.std.proofs.Common.{rules, ◌≡◌, true, false, sym, ◌∙◌}
use Rattle.dw_forms.specs.Value.{view}
use Rattle.dw_forms.specs.declared.value.Value.TheVariants as value
use Rattle.dw_entries.proofs.LeadValues.{holds_by, other_value}
use Rattle.dw_entries.proofs.led.led_by.Goals as goal
use Rattle.dw_entries.proofs.led.led_by.Goals.{in_default-via-in-StrIndex+else-is_index, in_default-via-in-AddrIndex+else-eq, in_default-via-in_default}

pub returns-in_default-clause-lead : goal.returns-in_default-clause-lead
returns-in_default-clause-lead c =
    let (spec, leads, read) = c.requires.read in
    let holds = holds_by _ spec (c.args.attribute, view c.args.value) leads read in
    elim c.in_default.branch [
      | in_default-via-in-StrIndex+else-is_index w ↦
          other_value _ _ c.requires.on c.requires.other holds
          (λ m is l. let both : true ≡ false = search rules in cc)
          (λ m is. let no : value.StrIndex w.in-StrIndex.index ≡ value.AddrIndex m = sym w.in-StrIndex.is ∙ is in cc)
      | in_default-via-in-AddrIndex+else-eq w ↦
          other_value _ _ c.requires.on c.requires.other holds
          (λ m is. let no : value.AddrIndex w.in-AddrIndex.index ≡ value.StrIndex m = sym w.in-AddrIndex.is ∙ is in cc)
          (λ m is l. let both : true ≡ false = rw l at (sym w.if-eq.ensures) in cc)
      | in_default-via-in_default w ↦
          other_value _ _ c.requires.on c.requires.other holds
          (λ m is. absurd (w.in_default.not-StrIndex m is)) (λ m is. absurd (w.in_default.not-AddrIndex m is))
    ]
