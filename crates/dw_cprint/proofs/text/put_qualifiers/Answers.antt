use Rattle.std.proofs.lemmas.Grind.{common_steps}
use Rattle.std.proofs.Common.{arith, List, ◌++◌, ap, sym, ◌∙◌, append-nil}
use Rattle.std.proofs.lemmas.List.{drop_all, drop_more}
use Rattle.dw_cprint.specs.Shapes.{Qualifier}
use Rattle.dw_cprint.specs.Tokens.{text_of}
use Rattle.dw_cprint.specs.Writing.{qualifying}
use Rattle.dw_cprint.proofs.ItemWriterLemmas.{moved}
use Rattle.dw_cprint.proofs.WriterLemmas.{both}
use Rattle.dw_cprint.proofs.text.put_qualifiers.Goals as goal

pub loop-qualifier-preserved : goal.loop-qualifier-preserved
loop-qualifier-preserved c = grind (arith, common_steps, append-nil, moved, both, drop_more)

pub returns : goal.returns
returns c =
    let out = c.loop-qualifier.out.items in
    sym (append-nil out) ∙ ap (λ (qs : List Qualifier). out ++ text_of (qualifying qs))
    (sym (drop_all c.loop-qualifier.qualifier-index c.args.qualifiers.now c.loop-qualifier-test.false))
    ∙ c.loop-qualifier.invariant
