use Rattle.std.proofs.Common.{◌++◌, ap, sym, ◌∙◌, subst}
use Rattle.std.specs.List.{flat_map}
use Rattle.std.specs.Str.{IsUtf8}
use Rattle.std.proofs.lemmas.Result.{IfOk-weaker}
use Rattle.std.proofs.lemmas.Str.{IsUtf8-string_bytes}
use Rattle.dwv_addr.specs.Answers.{glyph}
use Rattle.dwv_addr.proofs.TextLemmas.{not_shown, shown}
use Rattle.dwv_addr.proofs.json.text_of.Goals as goal

pub returns-in-Ok : goal.returns-in-Ok
returns-in-Ok c =
    let written = c.in_ok-put_glyphs.ensures.ok
    ∙ ap (λ xs. xs ++ flat_map glyph c.args.bytes.now) c.new-shown.ensures.items in
    shown c.args.bytes.now _ (IsUtf8-string_bytes c.in-Ok.text) (ap (λ v. v.items) c.in-Ok.ensures.ok ∙ written)

pub returns : goal.returns
returns c =
    let written = c.in_ok-put_glyphs.ensures.ok
    ∙ ap (λ xs. xs ++ flat_map glyph c.args.bytes.now) c.new-shown.ensures.items in
    let invalid = not_shown c.args.bytes.now
    (λ valid. let never = c.in-Err.ensures.succeeds (subst IsUtf8 (sym written) valid) in absurd cc) in
    IfOk-weaker c.ascii_text.result _ _ (λ text is. is ∙ invalid) c.ascii_text.ensures
