use Rattle.std.proofs.Common.{◌∙◌, ap, map, length, arith}
use Rattle.std.proofs.Math.Seq.{take_all}
use Rattle.dw_lookup.specs.Parts.{pair_of}
use Rattle.dw_lookup.proofs.PartLemmas.{pairs_are}
use Rattle.dw_lookup.proofs.parts.pairs_of.Goals as goal

pub returns-clause-areas : goal.returns-clause-areas
returns-clause-areas c =
    let past = c.loop-area-test.false in
    pairs_are c.args.areas.now c.loop-area.pairs.items
    (c.loop-area.invariant ∙ ap (map pair_of) (take_all c.loop-area.area-index c.args.areas.now (omega (arith, past))))
    c.requires
