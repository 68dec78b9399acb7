use Rattle.std.proofs.Common.{refl, ◌∙◌, arith}
use Rattle.std.proofs.lemmas.Grind.{common_steps}
use Rattle.dw_io.proofs.OutputLemmas.{Appends-more}
use Rattle.dw_io.proofs.transfer.write_all.Goals as goal

pub writes-preserved : goal.writes-preserved
writes-preserved g c =
    let (_, failures, so_far) = c.writes.invariant in
    let is = c.in_ok-write_once.ensures in (
      is.bound,
      is.kept ∙ failures,
      Appends-more _ _ _ c.writes.taken c.write_once.new.taken c.args.text.now _ refl
          (grind (arith, common_steps)) (omega (arith, is.more)) so_far is.bytes,
    )
