use Rattle.std.proofs.Common.{rules, ◌≡◌, ◌<◌, ◌≤◌, Some, refl, sym, ◌∙◌, length, get_or, arith, length-set}
use Rattle.std.specs.Prelude.{slice_get}
use Rattle.std.proofs.lemmas.List.{take_all}
use Rattle.std.proofs.lemmas.Option.{slice_get_read}
use Rattle.dw_cprint.proofs.SummaryLemmas.{have_more, all_known, right_more}
use Rattle.dw_cprint.proofs.summary.summarize.Goals as goal

pub summary_of-summary-requires : goal.summary_of-summary-requires
summary_of-summary-requires c = search rules

pub loop-rank-preserved : goal.loop-rank-preserved
loop-rank-preserved c =
    let i = c.loop-rank.rank in
    let clear = c.args.clear.now in
    let shapes = c.args.survey.shapes.items in
    let places = c.args.survey.places.items in
    let nodes = c.loop-rank.survey.summaries.items in
    let s = c.summary_of-summary.result in
    let node = get_or clear i 0 in
    let shape = c.index-shape.result.now in
    let below : i < length clear = rw (← c.len-rank-end.ensures) c.loop-rank-test.true in
    let in_shapes : node < length shapes = c.requires i 0 below in
    let there : node < length nodes = omega (arith, c.loop-rank.invariant.len) in
    let is : slice_get shapes node
    ≡ Some shape = slice_get_read shapes (length shapes) node shape refl in_shapes
    (rw (c.get-node.ensures, c.loop-rank.invariant.shapes) at c.index-shape.ensures) in
    rw c.get-node.ensures (record {
      places = c.loop-rank.invariant.places;
      shapes = c.loop-rank.invariant.shapes;
      len = length-set nodes node (Some s) ∙ c.loop-rank.invariant.len;
      have = have_more clear nodes i s below there c.loop-rank.invariant.have;
      right = λ all found are.
          let entry = get_or found node 0 in
          let says = are.says node shape is in
          let right = c.loop-rank.invariant.right all found are in
          let known = rw (← c.loop-rank.invariant.places, ← says) at
          (all_known are nodes i below right) in
          right_more are nodes i s below there right
          (c.summary_of-summary.ensures all entry (sym says) known);
    })

pub returns-clause-clear : goal.returns-clause-clear
returns-clause-clear c =
    let over : length c.args.clear.now
    ≤ c.loop-rank.rank = rw (← c.len-rank-end.ensures) c.loop-rank-test.false in
    rw (take_all c.loop-rank.rank c.args.clear.now over) at c.loop-rank.invariant.have

pub returns-clause-right : goal.returns-clause-right
returns-clause-right c = λ all found are i lower.
    let over : length c.args.clear.now
    ≤ c.loop-rank.rank = rw (← c.len-rank-end.ensures) c.loop-rank-test.false in
    rw c.loop-rank.invariant.places (c.loop-rank.invariant.right all found are i (omega arith))
