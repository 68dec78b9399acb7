use Rattle.dw_cprint.specs.Shapes.{view_enumerator}
use Rattle.dw_cprint.proofs.ItemWriterLemmas.{enumerators_next}
use Rattle.dw_cprint.proofs.enumerators.put_next.Goals as goal

pub returns : goal.returns
returns c =
    λ all left begin so_far. enumerators_next all left (view_enumerator c.in-Some.enumerator) begin _ _ _ c.args.others
    (rw c.in-Some.is at so_far) c.in_ok-put_comma.ensures c.in_ok-put_enumerator.ensures
