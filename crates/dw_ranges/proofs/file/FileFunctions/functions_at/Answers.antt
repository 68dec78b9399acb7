use Rattle.std.proofs.Common.{◌≡◌, List, get_or, ◌∙◌, subst, arith}
use Rattle.std.specs.Prelude.{slice_range}
use Rattle.std.proofs.lemmas.List.{get_or_default}
use Rattle.dw_ranges.specs.Files.{known_at, no_part}
use Rattle.dw_ranges.specs.Spans.{IsChain}
use Rattle.dw_ranges.specs.declared.spans.Span.{Span}
use Rattle.dw_ranges.proofs.file.FileFunctions.functions_at.Goals as goal

pub returns-in_default : goal.returns-in_default
returns-in_default c = λ units index. (c.in_default.ensures.none units index, c.clear.ensures.items)

pub returns : goal.returns
returns c = λ units index.
    let n = c.in-Some.unit in
    let found = c.in-Some.ensures.found units index in
    let parts = c.args.self.now.parts.items in
    let own = index.parts.each n found.0.0 in
    let here : c.index-part.result.now ≡ get_or parts n no_part =
    c.index-part.ensures
    ∙ get_or_default parts n c.index-part.result.now no_part (omega (arith, found.0.0, index.parts.count)) in
    let same : slice_range c.deref.result.now c.index-part.result.now.first c.index-part.result.now.end
    ≡ (known_at units n).spans =
    (λ t. slice_range (c.deref.ensures.value t) (here t).first (here t).end) ∙ own.are in (
      found,
      subst (λ (l : List Span). IsChain l 0 c.args.address c.functions_at.new.functions.items) same
          c.in_ok-functions_at.ensures,
    )
