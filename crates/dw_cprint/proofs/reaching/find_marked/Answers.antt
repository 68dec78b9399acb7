use Rattle.std.proofs.Common.{rules, ◌≡◌, ℕ, Vec, ap, false, get_or, length, sym, ◌∙◌}
use Rattle.std.specs.Global.{Global}
use Rattle.dw_cprint.specs.Reach.{IsMarked}
use Rattle.dw_cprint.proofs.RootLemmas.{found-as, found-more, found-same}
use Rattle.dw_cprint.proofs.reaching.find_marked.Goals as goal
use Rattle.dw_cprint.proofs.reaching.find_marked.Goals.{then-marks-entry+in_ok-place_of, else-marks-entry}

pub loop-entry-preserved : goal.loop-entry-preserved
loop-entry-preserved c =
    let marks = c.args.marks.now in
    let n = c.loop-entry.entry in
    let items = λ (v : Vec ℕ Global). v.items in
    elim c.if-marks-entry.branch [
      | then-marks-entry+in_ok-place_of w ↦
          let marked : IsMarked marks n = search rules in
          let places = ap items (sym w.places-is) in (
            found-as places (sym w.found-is)
                (found-more c.loop-entry.invariant.0 marked w.in_ok-place_of.ensures.row),
            ap length (sym places) ∙ w.in_ok-place_of.ensures.places ∙ c.loop-entry.invariant.1,
          )
      | else-marks-entry w ↦
          let none : get_or marks n false ≡ false = search rules in
          let places = ap items (sym w.places-is) in (
            found-as places (sym w.found-is)
                (found-same c.loop-entry.invariant.0 none),
            ap length (sym places) ∙ c.loop-entry.invariant.1,
          )
    ]
