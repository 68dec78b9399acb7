use Rattle.std.proofs.Common.{◌++◌, ap, sym, ◌∙◌, subst}
use Rattle.std.specs.List.{flat_map}
use Rattle.std.specs.Str.{IsUtf8}
use Rattle.dwv_addr.specs.AnswerObjects.{ascii_glyph}
use Rattle.dwv_addr.proofs.TextLemmas.{are_utf8}
use Rattle.dwv_addr.proofs.json.ascii_text.Goals as goal

pub unwrap-requires : goal.unwrap-requires
unwrap-requires c =
    let written = c.in_ok-put_ascii_glyphs.ensures.ok
    ∙ ap (λ xs. xs ++ flat_map ascii_glyph c.args.bytes.now) c.new-text.ensures.items in
    c.from_utf8.ensures.succeeds (subst IsUtf8 (sym written) (are_utf8 c.args.bytes.now))
