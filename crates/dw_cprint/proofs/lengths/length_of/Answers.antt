use Rattle.std.proofs.Common.{◌≡◌, arith, sum_by}
use Rattle.dw_cprint.specs.Lengths.{capped, count_bytes}
use Rattle.dw_cprint.proofs.lengths.length_of.Goals as goal

pub returns-in-Array : goal.returns-in-Array
returns-in-Array c =
    let long : c.length.result ≡ capped (sum_by count_bytes c.in-Array.dimensions) = c.length.ensures in
    rw c.in-Array.is (omega (arith, c.plus-in-Array.ensures, c.length_around-in-Array.ensures, long))
