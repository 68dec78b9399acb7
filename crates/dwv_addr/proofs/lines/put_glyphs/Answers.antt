use Rattle.std.proofs.Common.{◌++◌, ap, sym, ◌∙◌, rules}
use Rattle.std.proofs.lemmas.List.{take_rest}
use Rattle.dwv_addr.proofs.GlyphLemmas.{glyphs_plain, glyphs_split}
use Rattle.dwv_addr.proofs.lines.put_glyphs.Goals as goal

pub loop-at-preserved : goal.loop-at-preserved
loop-at-preserved c = search (rules, take_rest, glyphs_split)

pub returns : goal.returns
returns c =
    let whole = ap (λ u. c.loop-at.text.items ++ u) (sym (glyphs_plain c.loop-at.rest.now c.in_default.ensures.none))
    ∙ c.loop-at.invariant in
    search rules
