use Rattle.std.proofs.Common.{◌≡◌, ◌∙◌, ℕ, List, Option, None, Some, arith, rules, refl, sym}
use Rattle.std.proofs.lemmas.Result.{err_from_is_err_and}
use Rattle.dw_forms.specs.declared.fault.Stop.TheVariants as stops
use Rattle.dw_forms.specs.declared.form.Form.{Form}
use Rattle.dw_forms.specs.Formats.{Format, failing, found, nothing}
use Rattle.dw_forms.specs.FormCodes.{form_of}
use Rattle.dw_lines.specs.declared.rule.LineRule.{LineRule}
use Rattle.dw_lines.specs.declared.rule.LineRule.TheVariants.{LineForm}
use Rattle.dw_lines.specs.declared.tables.Content.{Content}
use Rattle.dw_lines.specs.Files.{content_format}
use Rattle.dw_lines.proofs.RepeatLaws.{times_all, times_more, times_fault}
use Rattle.dw_lines.proofs.tables.table_head.Goals as goal

-- the content of a kind and a form, if the code is that of a form
abbrev of_kind : ℕ → Option Form → Format Content LineRule
of_kind kind o = found o (failing LineForm) (λ f. nothing (record { kind = kind; form = f }))

of_code : (kind code : ℕ) (o : Option Form) (rest : List ℕ) → form_of code ≡ o
    → (of_kind kind (form_of code)).read rest ≡ (of_kind kind o).read rest
of_code kind code o rest is = rw is refl

pub returns-in_err-kind : goal.returns-in_err-kind
returns-in_err-kind c =
    let e = err_from_is_err_and c.from_residual-in_err-kind.result c.from_residual-in_err-kind.ensures.1 in
    let failed = times_fault content_format (stops.Fault _) _ _ _ _ (omega arith) c.loop.invariant
    (rw c.in_err-kind.ensures.exact refl) in
    rw (e.1, e.2, c.in_ok-end.ensures.exact, failed) refl

pub returns-in_err-take_uleb : goal.returns-in_err-take_uleb
returns-in_err-take_uleb c =
    let e = err_from_is_err_and c.from_residual-in_err-take_uleb.result c.from_residual-in_err-take_uleb.ensures.1 in
    let failed = times_fault content_format (stops.Fault _) _ _ _ _ (omega arith) c.loop.invariant
    (rw (c.in_ok-kind.ensures.exact, c.in_err-take_uleb.ensures.exact) refl) in
    rw (e.1, e.2, c.in_ok-end.ensures.exact, failed) refl

pub returns-in_err-form : goal.returns-in_err-form
returns-in_err-form c =
    let e = err_from_is_err_and c.from_residual-in_err-form.result c.from_residual-in_err-form.ensures.1 in
    let none : form_of c.in_ok-take_uleb.field-0 ≡ None =
    sym (rw c.in_err-form.ensures.ok_part at c.from_code.ensures) in
    let fault = rw c.in_err-form.ensures.ok_part at c.in_err-form.ensures.value in
    let same : LineForm ≡ c.in_err-form.field-0.0 = cc in
    let failed = times_fault content_format (stops.Fault _) _ _ _ _ (omega arith) c.loop.invariant
    (rw (c.in_ok-kind.ensures.exact, c.in_ok-take_uleb.ensures.exact)
    (of_code _ _ None _ none ∙ rw same refl)) in
    rw (e.1, e.2, c.in_ok-end.ensures.exact, failed) refl

pub loop-preserved : goal.loop-preserved
loop-preserved c =
    let some : form_of c.in_ok-take_uleb.field-0 ≡ Some c.in_ok-form.form =
    sym (rw c.in_ok-form.ensures.ok_part at c.from_code.ensures) in
    rw c.in_ok-push.ensures.items
    (times_more _ _ _ _ _ _ _ _ (omega arith) c.loop.invariant
    (rw (c.in_ok-kind.ensures.exact, c.in_ok-take_uleb.ensures.exact)
    (of_code _ _ (Some c.in_ok-form.form) _ some)))

pub returns-then-not-are_valid : goal.returns-then-not-are_valid
returns-then-not-are_valid c =
    let done = times_all content_format _ _ _ _ (omega arith) c.loop.invariant in
    rw (c.in_ok-end.ensures.exact, done) (search rules)

pub returns-in_err-count : goal.returns-in_err-count
returns-in_err-count c =
    let done = times_all content_format _ _ _ _ (omega arith) c.loop.invariant in
    let e = err_from_is_err_and c.from_residual-in_err-count.result c.from_residual-in_err-count.ensures.1 in
    rw (e.1, e.2, c.in_ok-end.ensures.exact, done) (search rules)

pub returns-then-has_kind : goal.returns-then-has_kind
returns-then-has_kind c =
    let done = times_all content_format _ _ _ _ (omega arith) c.loop.invariant in
    rw (c.in_ok-end.ensures.exact, done) (search rules)

pub returns : goal.returns
returns c =
    let done = times_all content_format _ _ _ _ (omega arith) c.loop.invariant in
    rw (c.in_ok-end.ensures.exact, done) (search rules)
