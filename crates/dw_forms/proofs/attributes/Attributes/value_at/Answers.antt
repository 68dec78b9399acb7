use Rattle.std.proofs.Common.{◌∙◌}
use Rattle.dw_forms.proofs.PlaceTurns.{cut_here}
use Rattle.dw_forms.proofs.SuffixLaws.{none_has_it, before_found, before_fails, it_fails, it_reads}
use Rattle.dw_forms.proofs.attributes.Attributes.value_at.Goals as goal

pub returns-in_default : goal.returns-in_default
returns-in_default c = none_has_it _ _ _ c.requires.found c.in_default.ensures

pub returns-in-Err : goal.returns-in-Err
returns-in-Err c =
    let before = before_found _ 8 _ _ _ c.requires.found in
    before_fails _ 8 _ _ _ c.requires.found _ _
    c.in-Some.ensures _ _
    (cut_here _ _ _ c.requires.found _ c.requires.at before.0
    before.1 _ _ ∙ (rw c.from.ensures at c.in-Err.ensures))

pub returns-in-Ok-read_any : goal.returns-in-Ok-read_any
returns-in-Ok-read_any c =
    let before = before_found _ 8 _ _ _ c.requires.found in
    it_reads _ 8 _ _ _ c.requires.found _ _
    c.in-Some.ensures _ c.in-Ok.rest.now
    (cut_here _ _ _ c.requires.found _ c.requires.at before.0
    before.1 _ _ ∙ (rw c.from.ensures at c.in-Ok.ensures))
    _ _ c.in-Ok-read_any.ensures.exact

pub returns-in-Err-read_any : goal.returns-in-Err-read_any
returns-in-Err-read_any c =
    let before = before_found _ 8 _ _ _ c.requires.found in
    it_fails _ 8 _ _ _ c.requires.found _ _
    c.in-Some.ensures _ c.in-Ok.rest.now
    (cut_here _ _ _ c.requires.found _ c.requires.at before.0
    before.1 _ _ ∙ (rw c.from.ensures at c.in-Ok.ensures))
    _ c.in-Err-read_any.ensures.exact
