use Rattle.dw_forms.proofs.SuffixLaws.{none_has_it, before_found, before_fails, it_fails, it_reads}
use Rattle.dw_forms.proofs.attributes.Attributes.value_of.Goals as goal

pub returns-in_default : goal.returns-in_default
returns-in_default c = none_has_it _ _ _ c.requires.found c.in_default.ensures

pub pass-requires-clause-ends : goal.pass-requires-clause-ends
pass-requires-clause-ends c =
    before_found c.args.version c.args.address_size c.args.attribute c.args.self.now c.args.found
    c.requires.found

pub returns-in-Err : goal.returns-in-Err
returns-in-Err c =
    let before = before_found _ _ _ _ _
    c.requires.found in
    before_fails _ _ _ _ _
    c.requires.found _ _ c.in-Some.ensures _ _
    (c.in-Err.ensures before.0 before.1)

pub returns-in-Ok-read_any : goal.returns-in-Ok-read_any
returns-in-Ok-read_any c =
    let before = before_found _ _ _ _ _
    c.requires.found in
    it_reads _ _ _ _ _
    c.requires.found _ _ c.in-Some.ensures _ c.in-Ok.rest.now
    (c.in-Ok.ensures before.0 before.1) _ _ c.in-Ok-read_any.ensures.exact

pub returns-in-Err-read_any : goal.returns-in-Err-read_any
returns-in-Err-read_any c =
    let before = before_found _ _ _ _ _
    c.requires.found in
    it_fails _ _ _ _ _
    c.requires.found _ _ c.in-Some.ensures _ c.in-Ok.rest.now
    (c.in-Ok.ensures before.0 before.1) _ c.in-Err-read_any.ensures.exact
